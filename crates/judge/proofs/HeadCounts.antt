-- The rules are looked at for several heads one after the other.
use mathlib.Core.Path.{◌≡◌, refl, sym, ap, ◌∙◌}
use mathlib.Core.Bool.{Bool, true, false, ◌||◌}
use mathlib.Core.Option.{some}
use mathlib.Core.List.{List, [], ◌∷◌}
use Prim.Native.Nat.{ℕ, zero, suc, ◌+◌, ◌≤◌, ◌<◌}
use native.Mathlib.Omega.{arith}
use native.Mathlib.Numerals.{add-one}
use borrow.Author.Tests.{lt-ltb, le-ltb}
use lib.Dec.{ltb}
use Rattle.meaning.specs.Sets.{any}
use Rattle.meaning.specs.Rules.{Rule, several, disjunctive}
use Rattle.meaning.proofs.Sets.{at_in, any_append, any_of, any_one}
use Rattle.tables.specs.Layout.{first_head_column, heads_column}
use Rattle.tables.specs.Rows.{from, atom_at, rule_at, rule_column}
use Rattle.tables.proofs.Strides.{from_at, from_last}
use Rattle.store.specs.Store.{literals_in, rules_in}
use Rattle.derivation.specs.Rounds.{rules_for}

several_from : {A : Type 0} (f : ℕ → A) (n k : ℕ) → several (from f n k) ≡ ltb 1 n
unfolding several from
several_from f zero k = refl
several_from f (suc zero) k = refl
several_from f (suc (suc n)) k = sym (lt-ltb 1 (suc (suc n)) (omega arith))

module _ (store : List ℕ) where
  heads_of : (r : ℕ) → several (rule_at (rules_in store) (literals_in store) r).heads ≡ ltb 1 (rule_column (rules_in store) r heads_column)
  unfolding rule_at
  heads_of r = several_from (atom_at (literals_in store)) (rule_column (rules_in store) r heads_column) (rule_column (rules_in store) r first_head_column)

  abbrev test : Rule ℕ → Bool
  test r = several r.heads

  one_more : (r : ℕ) → disjunctive (rules_for store (suc r)) ≡ (disjunctive (rules_for store r) || ltb 1 (rule_column (rules_in store) r heads_column))
  unfolding disjunctive
  one_more r =
      let z : 0 + r ≡ r = omega arith in
      ap (any test) (from_last (rule_at (rules_in store) (literals_in store)) r 0)
      ∙ any_append test (rules_for store r) (rule_at (rules_in store) (literals_in store) (0 + r) ∷ [])
      ∙ ap (λ (b : Bool). any test (rules_for store r) || b) (any_one test (rule_at (rules_in store) (literals_in store) (0 + r)) ∙ rw z (heads_of r))

  pub none_several : disjunctive (rules_for store 0) ≡ false
  unfolding disjunctive any from
  none_several = refl

  pub still_single : (r : ℕ) → disjunctive (rules_for store r) ≡ false → rule_column (rules_in store) r heads_column ≤ 1 → disjunctive (rules_for store (r + 1)) ≡ false
  still_single r e h = rw (add-one r) (one_more r ∙ rw (e, le-ltb 1 (rule_column (rules_in store) r heads_column) h) refl)

  -- a rule with several heads, and whatever stands behind it
  pub several_there : (r total : ℕ) → r < total → 1 < rule_column (rules_in store) r heads_column → disjunctive (rules_for store total) ≡ true
  unfolding disjunctive
  several_there r total h k = any_of test (rules_for store total) (rule_at (rules_in store) (literals_in store) r) (at_in (rules_for store total) r (rule_at (rules_in store) (literals_in store) r) (let z : 0 + r ≡ r = omega arith in from_at (rule_at (rules_in store) (literals_in store)) total 0 r h ∙ ap (λ (i : ℕ). some (rule_at (rules_in store) (literals_in store) i)) z)) (heads_of r ∙ lt-ltb 1 (rule_column (rules_in store) r heads_column) k)
