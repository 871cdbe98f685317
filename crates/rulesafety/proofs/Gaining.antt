-- The first row that gains is the first gain of the meaning.
use mathlib.Core.Path.{◌≡◌, refl, sym, ◌∙◌}
use mathlib.Core.Bool.{Bool, true, false, not, cond, ◌&&◌, true≢false}
use mathlib.Core.Option.{none, some}
use mathlib.Core.List.{List}
use Prim.Native.Nat.{ℕ, zero, suc, ◌+◌, ◌≤◌, ◌<◌}
use native.Mathlib.Omega.{arith}
use native.Mathlib.Numerals.{add-one}
use lib.Dec.{eqb, ltb}
use borrow.Author.Tests.{lt-ltb, le-ltb, eq-eqb, ne_eqb, eqb-true, eqb-false, ltb-true, ltb-false}
use Rattle.std.specs.Prelude.{Option, Some, None, IfSome, find}
use Rattle.std.specs.List.{range_with_len}
use Rattle.std.proofs.lemmas.Option.{none-some, same_Some}
use Rattle.meaning.specs.Domain.{unequal, less, at_most, greater, at_least}
use Rattle.meaning.specs.Rules.{Term, Side, plain, computed, builtin}
use Rattle.meaning.specs.Safety.{term_bound, side_bound, when, else, gain_left, gain, next_gain}
use Rattle.meaning.proofs.Booleans.{and_left, and_right, not_true}
use Rattle.codes.specs.Codes.{no_value}
use Rattle.codes.specs.Arithmetic.{equal_code, comparison_at, operation_at}
use Rattle.tables.specs.Layout.{sort_column, comparison_column, operation_column, terms_column, first_column, second_column, positive_sort, negated_sort, builtin_sort}
use Rattle.tables.specs.Rows.{from, term_of, literal_column, no_operation, side_at, literal_at, equation_at}
use Rattle.rulesafety.specs.Scanned.{gains, first_gain}

-- ---- one row

abbrev sort_of : List ℕ → ℕ → ℕ
sort_of literals l = literal_column literals l sort_column

module _ (B : ℕ → Bool) where
  gain_left_is : (c : ℕ) (e : Side ℕ) → gain_left B (term_of c) e ≡ when (not (term_bound B (term_of c)) && side_bound B e) (some (record { left = c; right = e }))
  unfolding gain_left term_bound term_of when
  gain_left_is c e = go (ltb c no_value) refl
    where
      go : (t : Bool) → ltb c no_value ≡ t → gain_left B (term_of c) e ≡ when (not (term_bound B (term_of c)) && side_bound B e) (some (record { left = c; right = e }))
      go true f = rw f
      go false f = rw f

  -- a comparison that is not `=`
  no_equation : (k : ℕ) (t : Term ℕ) (e : Side ℕ) → eqb k equal_code ≡ false → gain B (builtin (comparison_at k) t e) ≡ none
  unfolding comparison_at gain
  no_equation k t e h = rw h (go (eqb k 1) (eqb k 2) (eqb k 3) (eqb k 4))
    where
      go : (a b c d : Bool) → gain B (builtin (cond a unequal (cond b less (cond c at_most (cond d greater at_least)))) t e) ≡ none
      go true b c d = refl
      go false true c d = refl
      go false false true d = refl
      go false false false true = refl
      go false false false false = refl

  -- an unbound term is a variable
  unbound_low : (c : ℕ) → term_bound B (term_of c) ≡ false → c < no_value
  unfolding term_bound term_of
  unbound_low c h = go (ltb c no_value) refl
    where
      go : (t : Bool) → ltb c no_value ≡ t → c < no_value
      go true e = ltb-true c no_value e
      go false e = absurd (true≢false (rw e at h))

  module _ (literals : List ℕ) where
    gain_is : (l : ℕ) → gain B (literal_at literals l) ≡ when (gains B literals l) (some (equation_at literals l))
    unfolding gain gains when literal_at equation_at comparison_at
    gain_is l = go (eqb (sort_of literals l) positive_sort) refl (eqb (sort_of literals l) negated_sort) refl (eqb (literal_column literals l comparison_column) equal_code) refl
      where
        go : (a : Bool) → eqb (sort_of literals l) positive_sort ≡ a → (b : Bool) → eqb (sort_of literals l) negated_sort ≡ b → (k : Bool) → eqb (literal_column literals l comparison_column) equal_code ≡ k → gain B (literal_at literals l) ≡ when (gains B literals l) (some (equation_at literals l))
        go true p b q k f = let z = eqb-true (sort_of literals l) positive_sort p in rw (p, lt-ltb (sort_of literals l) builtin_sort (omega arith))
        go false p true q k f = let z = eqb-true (sort_of literals l) negated_sort q in rw (p, q, lt-ltb (sort_of literals l) builtin_sort (omega arith))
        go false p false q true f = let y = eqb-false (sort_of literals l) positive_sort p in let z = eqb-false (sort_of literals l) negated_sort q in rw (p, q, f, le-ltb (sort_of literals l) builtin_sort (omega arith)) (gain_left_is (literal_column literals l terms_column) (side_at literals l))
        go false p false q false f =
            let y = eqb-false (sort_of literals l) positive_sort p in
            let z = eqb-false (sort_of literals l) negated_sort q in
            rw (p, q, le-ltb (sort_of literals l) builtin_sort (omega arith)) (no_equation (literal_column literals l comparison_column) (term_of (literal_column literals l terms_column)) (side_at literals l) f ∙ rw f)

    -- a row that gains is a built-in with a variable on its left
    pub gains_row : (l : ℕ) → gains B literals l ≡ true → (builtin_sort ≤ literal_column literals l sort_column) × (literal_column literals l terms_column < no_value)
    unfolding gains
    gains_row l h =
        let built_in = ltb-false (literal_column literals l sort_column) builtin_sort (not_true _ (and_left _ _ h)) in
        let rest = and_right (not (ltb (literal_column literals l sort_column) builtin_sort)) _ h in
        let left = and_left _ _ (and_right (eqb (literal_column literals l comparison_column) equal_code) _ rest) in
        (built_in, unbound_low (literal_column literals l terms_column) (not_true _ left))

    -- ---- the first that gains, of n from k on

    pub none_gains : (n k : ℕ) → first_gain (gains B literals) n k ≡ None → next_gain B (from (literal_at literals) n k) ≡ none
    unfolding next_gain first_gain else when from
    none_gains zero k h = refl
    none_gains (suc n) k h = go (gains B literals k) refl h (none_gains n (suc k))
      where
        go : (t : Bool) → gains B literals k ≡ t → first_gain (gains B literals) (suc n) k ≡ None → (first_gain (gains B literals) n (suc k) ≡ None → next_gain B (from (literal_at literals) n (suc k)) ≡ none) → next_gain B (from (literal_at literals) (suc n) k) ≡ none
        go true e g rec = absurd (none-some k (sym (rw e at g)))
        go false e g rec = rw (gain_is k, e) (rec (rw e at g))

    -- the row l gains, and no row before it
    pub record Gains (n k l : ℕ) : Type 0 where
      pub inside : (k ≤ l) × (l < k + n)
      pub next : next_gain B (from (literal_at literals) n k) ≡ some (equation_at literals l)
      pub here : gains B literals l ≡ true

    pub one_gains : (n k l : ℕ) → first_gain (gains B literals) n k ≡ Some l → Gains n k l
    unfolding next_gain first_gain else when from
    one_gains zero k l h = absurd (none-some l h)
    one_gains (suc n) k l h = go (gains B literals k) refl h (one_gains n (suc k) l)
      where
        go : (t : Bool) → gains B literals k ≡ t → first_gain (gains B literals) (suc n) k ≡ Some l → (first_gain (gains B literals) n (suc k) ≡ Some l → Gains n (suc k) l) → Gains (suc n) k l
        go true e g rec = let same = same_Some k l (rw e at g) in rw (← same) (record { inside = (omega arith, omega arith); next = rw (gain_is k, e); here = e })
        go false e g rec = let r = rec (rw e at g) in record { inside = (omega (arith, r.inside.0), omega (arith, r.inside.1)); next = rw (gain_is k, e) r.next; here = r.here }

    pub gain_inside : (n k : ℕ) (r : Option ℕ) → r ≡ first_gain (gains B literals) n k → IfSome r (λ l. l < k + n)
    gain_inside n k None e = tt
    gain_inside n k (Some l) e = (one_gains n k l (sym e)).inside.1

-- ---- as the code finds it

pub gain_found : (p : ℕ → Bool) (n k : ℕ) → find p (range_with_len k n) ≡ first_gain p n k
unfolding first_gain
gain_found p zero k = refl
gain_found p (suc n) k = rw (add-one k, gain_found p n (suc k))

-- ---- by the tests of the code

module _ (B : ℕ → Bool) (literals : List ℕ) (l : ℕ) where
  pub no_builtin : literal_column literals l sort_column < builtin_sort → false ≡ gains B literals l
  unfolding gains
  no_builtin h = rw (lt-ltb _ _ h)

  module _ (built_in : builtin_sort ≤ literal_column literals l sort_column) where
    pub other_comparison : (literal_column literals l comparison_column ≡ equal_code → ⊥) → false ≡ gains B literals l
    unfolding gains
    other_comparison h = rw (le-ltb _ _ built_in, ne_eqb _ _ h)

    module _ (equality : literal_column literals l comparison_column ≡ equal_code) where
      pub left_bound : term_bound B (term_of (literal_column literals l terms_column)) ≡ true → false ≡ gains B literals l
      unfolding gains
      left_bound h = rw (le-ltb _ _ built_in, eq-eqb _ _ equality, h)

      module _ (left : term_bound B (term_of (literal_column literals l terms_column)) ≡ false) where
        pub right_unbound : term_bound B (term_of (literal_column literals l first_column)) ≡ false → false ≡ gains B literals l
        unfolding gains side_at side_bound
        right_unbound h = rw (le-ltb _ _ built_in, eq-eqb _ _ equality, left) (go (eqb (literal_column literals l operation_column) no_operation))
          where
            go : (t : Bool) → false ≡ side_bound B (cond t (plain (term_of (literal_column literals l first_column))) (computed (term_of (literal_column literals l first_column)) (operation_at (literal_column literals l operation_column)) (term_of (literal_column literals l second_column))))
            go true = sym h
            go false = rw h

        module _ (right : term_bound B (term_of (literal_column literals l first_column)) ≡ true) where
          pub right_plain : literal_column literals l operation_column ≡ no_operation → true ≡ gains B literals l
          unfolding gains side_at side_bound
          right_plain h = rw (le-ltb _ _ built_in, eq-eqb _ _ equality, left, eq-eqb _ _ h) (sym right)

          pub right_computed : (literal_column literals l operation_column ≡ no_operation → ⊥) → (r : Bool) → r ≡ term_bound B (term_of (literal_column literals l second_column)) → r ≡ gains B literals l
          unfolding gains side_at side_bound
          right_computed h r e = rw (le-ltb _ _ built_in, eq-eqb _ _ equality, left, ne_eqb _ _ h, right) e
