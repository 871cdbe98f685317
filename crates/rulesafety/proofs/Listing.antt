-- The rows of a body's positive literals: as a loop lists them, and what they stand for.
use mathlib.Core.Path.{◌≡◌, refl, sym, ap, ◌∙◌}
use mathlib.Core.Bool.{Bool, true, false}
use mathlib.Core.Logic.{inl, inr}
use mathlib.Core.List.{List, ◌∷◌, ◌++◌, map, append-nil}
use Prim.Native.Nat.{ℕ, zero, suc, ◌+◌, ◌-◌, ◌≤◌, ◌<◌}
use native.Mathlib.Omega.{arith}
use native.Mathlib.Numerals.{add-one}
use lib.Dec.{eqb}
use lib.ListN.{length, length-set}
use lib.Seq.{take-suc-set}
use borrow.Author.Tests.{eq-eqb, ne_eqb}
use Rattle.meaning.specs.Sets.{In}
use Rattle.meaning.specs.Rules.{Term, Atom}
use Rattle.meaning.specs.Safety.{positives}
use Rattle.grammar.specs.Sizes.{most_literals}
use Rattle.tables.specs.Layout.{sort_column, positive_sort, negated_sort}
use Rattle.tables.specs.Rows.{from, literal_column, atom_at, literal_at}
use Rattle.rulesafety.specs.declared.listed.Rows.{Rows}
use Rattle.rulesafety.specs.Listed.{listed, no_rows, with_listed, positive_rows}

module _ (literals : List ℕ) where
  -- ---- as a loop lists them

  rows_last : (n k : ℕ) → positive_rows literals (suc n) k ≡ positive_rows literals n k ++ positive_rows literals 1 (k + n)
  unfolding positive_rows
  rows_last zero k = let e : k + 0 ≡ k = omega arith in rw e
  rows_last (suc n) k = go (eqb (literal_column literals k sort_column) positive_sort) refl (let e : suc k + n ≡ k + suc n = omega arith in rows_last n (suc k) ∙ ap (λ (m : ℕ). positive_rows literals n (suc k) ++ positive_rows literals 1 m) e)
    where
      go : (t : Bool) → eqb (literal_column literals k sort_column) positive_sort ≡ t → positive_rows literals (suc n) (suc k) ≡ positive_rows literals n (suc k) ++ positive_rows literals 1 (k + suc n) → positive_rows literals (suc (suc n)) k ≡ positive_rows literals (suc n) k ++ positive_rows literals 1 (k + suc n)
      go true f ih = rw f (ap (λ (xs : List ℕ). k ∷ xs) ih)
      go false f ih = rw f ih

  -- the rows of the positive literals among the first i are found
  pub record Found (first : ℕ) (found : Rows) (i : ℕ) : Type 0 where
    pub are : listed found ≡ positive_rows literals i first
    pub few : found.count ≤ i
    pub room : length found.rows ≡ most_literals

  module _ (first : ℕ) where
    pub found_start : (found : Rows) → found ≡ no_rows → Found first found 0
    unfolding positive_rows
    found_start found e = rw e (record { are = refl; few = omega arith; room = refl })

    module _ (found : Rows) (l : ℕ) (low : first ≤ l) (f : Found first found (l - first)) where
      longer : l + 1 - first ≡ suc (l - first)
      longer = omega arith

      here : first + (l - first) ≡ l
      here = omega arith

      pub found_more : l - first < most_literals → literal_column literals l sort_column ≡ positive_sort → (more : Rows) → more ≡ with_listed found l → Found first more (l + 1 - first)
      unfolding positive_rows
      found_more h e more is =
          let fits : found.count < length found.rows = let r = f.room in let w = f.few in omega arith in
          rw is
          (record {
            are = rw (add-one found.count, take-suc-set found.rows found.count l fits, f.are, longer, rows_last (l - first) first, here, eq-eqb _ _ e);
            few = let w = f.few in omega arith;
            room = length-set found.rows found.count l ∙ f.room;
          })

      pub found_same : (literal_column literals l sort_column ≡ positive_sort → ⊥) → Found first found (l + 1 - first)
      unfolding positive_rows
      found_same n = record { are = f.are ∙ rw (longer, rows_last (l - first) first, here, ne_eqb _ _ n) (sym (append-nil _)); few = let w = f.few in omega arith; room = f.room }

  -- ---- what they stand for

  pub positives_stored : (n k : ℕ) → map (atom_at literals) (positive_rows literals n k) ≡ positives (from (literal_at literals) n k)
  unfolding positive_rows positives from literal_at
  positives_stored zero k = refl
  positives_stored (suc n) k = go (eqb (literal_column literals k sort_column) positive_sort) refl (eqb (literal_column literals k sort_column) negated_sort) refl (positives_stored n (suc k))
    where
      go : (a : Bool) → eqb (literal_column literals k sort_column) positive_sort ≡ a → (b : Bool) → eqb (literal_column literals k sort_column) negated_sort ≡ b → map (atom_at literals) (positive_rows literals n (suc k)) ≡ positives (from (literal_at literals) n (suc k)) → map (atom_at literals) (positive_rows literals (suc n) k) ≡ positives (from (literal_at literals) (suc n) k)
      go true p b r ih = rw p (ap (λ (xs : List (Atom (Term ℕ))). atom_at literals k ∷ xs) ih)
      go false p true r ih = rw (p, r) ih
      go false p false r ih = rw (p, r) ih

  pub positives_inside : (n k l : ℕ) → In l (positive_rows literals n k) → (k ≤ l) × (l < k + n)
  unfolding positive_rows
  positives_inside zero k l m = absurd m
  positives_inside (suc n) k l m = go (eqb (literal_column literals k sort_column) positive_sort) refl (positives_inside n (suc k) l)
    where
      go : (b : Bool) → eqb (literal_column literals k sort_column) positive_sort ≡ b → (In l (positive_rows literals n (suc k)) → (suc k ≤ l) × (l < suc k + n)) → (k ≤ l) × (l < k + suc n)
      go true e rec = split (rw e at m)
        where
          split : In l (k ∷ positive_rows literals n (suc k)) → (k ≤ l) × (l < k + suc n)
          split (inl z) = (omega arith, omega arith)
          split (inr y) = let h = rec y in (omega arith, omega arith)
      go false e rec = let h = rec (rw e at m) in (omega arith, omega arith)
