-- `literals_stay` meets its contract. Assumes nothing.
use mathlib.Core.Path.{◌≡◌, refl, ◌∙◌}
use mathlib.Core.Bool.{false}
use mathlib.Core.List.{List}
use Prim.Native.Nat.{ℕ, ◌-◌}
use native.Mathlib.Omega.{arith}
use lib.ListN.{get_or}
use Rattle.std.proofs.Common.{rules, tests}
use Rattle.std.specs.List.{range_with_len}
use Rattle.std.proofs.lemmas.List.FromFn.{get_or-range_with_len, length-range_with_len}
use Rattle.std.proofs.lemmas.Iterator.{YieldsList-from_range, cases_from_all}
use Rattle.meaning.specs.Rules.{Bytes}
use Rattle.meaning.specs.Matchings.{Values}
use Rattle.meaning.specs.Quick.{literal_overflows}
use Rattle.codes.specs.Domains.{codes, code_in_range}
use Rattle.tables.specs.Rows.{literal_at}
use Rattle.magnitudes.specs.Sizes.{Within}
use Rattle.magnitudes.proofs.Bounds.{none_passes}
use Rattle.magnitudes.proofs.literals_stay.Goals as goal

pub returns : goal.returns
returns c =
    λ z names ρ w.
    let a = c.args in
    let n = a.end - a.first in
    let all = cases_from_all _ _ c.all.result (λ (l : ℕ). (names : List Bytes) (ρ : Values ℕ) → Within a.bounds.now ρ → literal_overflows (codes names) code_in_range ρ (literal_at a.literals.now l) ≡ false) (λ (l : ℕ). Unit {0}) c.all.ensures.ran (YieldsList-from_range a.first a.end n refl refl) (λ x q k. (search (rules, tests), search (rules, tests))) (λ x q k. tt) in
    let stay = rw z at all in
    none_passes (literal_overflows (codes names) code_in_range ρ) a.literals.now n a.first (λ l h k.
    let e : get_or (range_with_len a.first n) (l - a.first) 0 ≡ l = get_or-range_with_len a.first n (l - a.first) 0 (omega arith) ∙ omega arith in
    (rw e at (stay (l - a.first) 0 (omega arith) (omega (arith, length-range_with_len a.first n)))) names ρ w)
