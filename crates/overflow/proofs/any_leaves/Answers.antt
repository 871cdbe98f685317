-- `any_leaves` meets its contract. Assumes nothing.
use mathlib.Core.Path.{refl, ◌∙◌}
use Prim.Native.Nat.{ℕ, ◌-◌}
use Rattle.std.proofs.Common.{rules, tests}
use Rattle.std.proofs.lemmas.Iterator.{YieldsList-from_range}
use Rattle.std.proofs.lemmas.Iterator.Search.{any_from_yields_List}
use Rattle.meaning.specs.Quick.{literal_overflows}
use Rattle.codes.specs.Domains.{codes, code_in_range}
use Rattle.tables.specs.Rows.{literal_at}
use Rattle.matching.specs.Known.{values_in}
use Rattle.overflow.proofs.Operations.{some_literal}
use Rattle.overflow.proofs.any_leaves.Goals as goal

pub returns : goal.returns
returns c =
    λ names.
    let a = c.args in
    any_from_yields_List (λ (l : ℕ). literal_overflows (codes names) code_in_range (values_in a.bound a.values.now) (literal_at a.literals.now l)) _ _ c.any.result c.any.ensures.ran (YieldsList-from_range a.first a.end (a.end - a.first) refl refl) (λ x b q k. (search (rules, tests), search (rules, tests)))
    ∙ some_literal (literal_overflows (codes names) code_in_range (values_in a.bound a.values.now)) a.literals.now (a.end - a.first) a.first
