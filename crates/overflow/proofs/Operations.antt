-- When a literal's operation leaves the range, by the code of its right side; and never without an operation.
use mathlib.Core.Path.{◌≡◌, refl, sym, ap, ◌∙◌}
use mathlib.Core.Bool.{Bool, true, false, ◌||◌, cond, true≢false}
use mathlib.Core.Option.{none, some}
use mathlib.Core.List.{List, [], ◌∷◌}
use Prim.Native.Nat.{ℕ, zero, suc, ◌≤◌, ◌<◌}
use native.Mathlib.Omega.{arith}
use native.Mathlib.Numerals.{add-one}
use native.Mathlib.Decide.{dec_lt}
use borrow.Author.Tests.{eqb-false, eq-eqb, ne_eqb, lt-ltb, le-ltb}
use lib.Dec.{eqb, ltb}
use Rattle.std.specs.List.{list_any, range_with_len}
use Rattle.meaning.specs.Sets.{any}
use Rattle.meaning.specs.Domain.{Domain}
use Rattle.meaning.specs.Rules.{Bytes, Literal, positive, negated, builtin, plain, computed}
use Rattle.meaning.specs.Matchings.{Values, side?}
use Rattle.meaning.specs.Quick.{unfit, side_overflows, literal_overflows}
use Rattle.meaning.proofs.Booleans.{not_twice}
use Rattle.codes.specs.Codes.{no_value, beyond}
use Rattle.codes.specs.Domains.{codes, code_in_range}
use Rattle.tables.specs.Layout.{sort_column, operation_column}
use Rattle.tables.specs.Rows.{from, literal_column, no_operation, side_at, literal_at}
use Rattle.tables.specs.WellFormed.{has_operation}
use Rattle.settle.specs.Settling.{said}

unfit_said : (c : ℕ) → unfit code_in_range (said c) ≡ eqb c beyond
unfolding unfit code_in_range said
unfit_said c = go (dec_lt no_value c)
  where
    go : Dec (no_value < c) → unfit code_in_range (cond (ltb no_value c) (some c) none) ≡ eqb c beyond
    go (yes h) = rw (lt-ltb no_value c h) (not_twice (eqb c beyond))
    go (no h) = let k : c ≤ no_value = omega arith in rw (le-ltb no_value c k) (sym (ne_eqb c beyond (λ e. omega arith)))

module _ (names : List Bytes) (literals : List ℕ) (l : ℕ) (ρ : Values ℕ) where
  pub classical_stays : literal_column literals l sort_column < 2 → literal_overflows (codes names) code_in_range ρ (literal_at literals l) ≡ false
  unfolding literal_at literal_overflows
  classical_stays h = go (eqb (literal_column literals l sort_column) 0) (eqb (literal_column literals l sort_column) 1) refl refl
    where
      go : (s t : Bool) → eqb (literal_column literals l sort_column) 0 ≡ s → eqb (literal_column literals l sort_column) 1 ≡ t → literal_overflows (codes names) code_in_range ρ (literal_at literals l) ≡ false
      go true t e f = rw e
      go false true e f = rw (e, f)
      go false false e f = let p = eqb-false (literal_column literals l sort_column) 0 e in let q = eqb-false (literal_column literals l sort_column) 1 f in absurd (omega arith)

  module _ (h : 2 ≤ literal_column literals l sort_column) where
    not_positive : eqb (literal_column literals l sort_column) 0 ≡ false
    not_positive = ne_eqb (literal_column literals l sort_column) 0 (λ e. omega arith)

    not_negated : eqb (literal_column literals l sort_column) 1 ≡ false
    not_negated = ne_eqb (literal_column literals l sort_column) 1 (λ e. omega arith)

    pub plain_stays : literal_column literals l operation_column ≡ no_operation → literal_overflows (codes names) code_in_range ρ (literal_at literals l) ≡ false
    unfolding literal_at literal_overflows side_overflows side_at
    plain_stays e = rw (not_positive, not_negated, eq-eqb (literal_column literals l operation_column) no_operation e)

    pub computed_leaves : (literal_column literals l operation_column ≡ no_operation → ⊥) → (r : ℕ) → said r ≡ side? (codes names) ρ (side_at literals l) → eqb r beyond ≡ literal_overflows (codes names) code_in_range ρ (literal_at literals l)
    unfolding literal_at literal_overflows side_overflows side_at side?
    computed_leaves n r q =
        let t = ne_eqb (literal_column literals l operation_column) no_operation n in
        rw (not_positive, not_negated, t) (sym (unfit_said r) ∙ ap (unfit code_in_range) (rw t at q))

-- ---- a test of some literal, by place

pub some_literal : (f : Literal ℕ → Bool) (literals : List ℕ) (n k : ℕ) → list_any (λ (l : ℕ). f (literal_at literals l)) (range_with_len k n) ≡ any f (from (literal_at literals) n k)
unfolding any from
some_literal f literals zero k = refl
some_literal f literals (suc n) k = rw add-one (ap (λ (b : Bool). f (literal_at literals k) || b) (some_literal f literals n (suc k)))

-- ---- without an operation nothing leaves the range

module _ {U : Type 0} (D : Domain U) (fits : U → Bool) (ρ : Values U) where
  one_stays : (x : Literal U) → has_operation x ≡ false → literal_overflows D fits ρ x ≡ false
  unfolding has_operation literal_overflows side_overflows
  one_stays (positive a) h = refl
  one_stays (negated a) h = refl
  one_stays (builtin c t (plain u)) h = refl
  one_stays (builtin c t (computed u o v)) h = absurd (true≢false h)

  or_false : (a b : Bool) → (a || b) ≡ false → (a ≡ false) × (b ≡ false)
  or_false true b h = absurd (true≢false h)
  or_false false b h = (refl, h)

  pub none_leaves : (ls : List (Literal U)) → any has_operation ls ≡ false → any (literal_overflows D fits ρ) ls ≡ false
  unfolding any
  none_leaves [] h = refl
  none_leaves (x ∷ xs) h =
      let q = or_false (has_operation x) (any has_operation xs) h in
      rw (one_stays x q.0) (none_leaves xs q.1)
