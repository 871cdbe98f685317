-- Bounds of terms, right sides and literals, from bounds of the variables.
use mathlib.Core.Path.{◌≡◌, refl, ap}
use mathlib.Core.Bool.{Bool, true, false}
use mathlib.Core.Option.{Option, none, some}
use mathlib.Core.List.{List}
use Prim.Native.Nat.{ℕ, zero, suc, ◌+◌, ◌*◌, ◌≤◌, ◌<◌}
use native.Mathlib.Decide.{ℕ_discrete}
use native.Mathlib.Omega.{arith}
use borrow.Author.Tests.{lt-ltb, le-ltb, eq-eqb, ne_eqb}
use lib.ListN.{get_or}
use Rattle.meaning.specs.Sets.{any}
use Rattle.meaning.specs.Domain.{Operation}
use Rattle.meaning.specs.Rules.{Bytes, Literal}
use Rattle.meaning.specs.Matchings.{Values, value?, operate?, side?}
use Rattle.meaning.specs.Quick.{unfit, side_overflows, literal_overflows}
use Rattle.meaning.proofs.Booleans.{none_some, some_inj}
use Rattle.codes.specs.Codes.{no_value}
use Rattle.codes.specs.Arithmetic.{operation_at}
use Rattle.codes.specs.Domains.{codes, code_in_range}
use Rattle.tables.specs.Layout.{sort_column, operation_column, first_column, second_column}
use Rattle.tables.specs.Rows.{from, term_of, literal_column, no_operation, side_at, literal_at}
use Rattle.magnitudes.specs.Sizes.{size, greatest, Within, Modest, TermWithin, SideWithin}
use Rattle.magnitudes.proofs.Far.{reached, size_small, applied_small}

-- ---- a term

module _ (term : ℕ) (bounds : List ℕ) (n : ℕ) where
  pub constant_within : no_value ≤ term → n ≡ size term → TermWithin term bounds n
  unfolding term_of value?
  constant_within h e = record { modest = omega (arith, size_small term); small = λ ρ w v k. let s : size term ≡ size v = ap size (some_inj (rw (le-ltb term no_value h) at k)) in omega arith }

  pub variable_within : Modest bounds → term < no_value → n ≡ get_or bounds term 0 → TermWithin term bounds n
  unfolding term_of value?
  variable_within m h e = record { modest = omega (arith, m term h); small = λ ρ w v k. let s : size v ≤ get_or bounds term 0 = w term v h (rw (lt-ltb term no_value h) at k) in omega arith }

-- ---- an operation

operated_small : (names : List Bytes) (o : Operation) (m n : ℕ) (p q : Option ℕ) → ((v : ℕ) → p ≡ some v → size v ≤ m) → ((v : ℕ) → q ≡ some v → size v ≤ n) → reached o m n ≤ greatest → (c : ℕ) → operate? (codes names) o p q ≡ some c → (code_in_range c ≡ true) × (size c ≤ reached o m n)
unfolding operate?
operated_small names o m n none q h k g c e = absurd (none_some e)
operated_small names o m n (some a) none h k g c e = absurd (none_some e)
operated_small names o m n (some a) (some b) h k g c e = applied_small o a b m n (h a refl) (k b refl) g c e

fits_all : (r : Option ℕ) → ((c : ℕ) → r ≡ some c → code_in_range c ≡ true) → unfit code_in_range r ≡ false
unfolding unfit
fits_all none h = refl
fits_all (some c) h = rw (h c refl)

sums : (o m n : ℕ) → o < 2 → reached (operation_at o) m n ≡ m + n
unfolding operation_at
sums o m n k = elim (ℕ_discrete o 0) [ yes z ↦ rw z refl | no z ↦ rw (ne_eqb o 0 z, eq-eqb o 1 (omega arith)) refl ]

multiplies : (o m n : ℕ) → 2 ≤ o → reached (operation_at o) m n ≡ m * n
unfolding operation_at
multiplies o m n k = rw (ne_eqb o 0 (λ z. omega arith), ne_eqb o 1 (λ z. omega arith)) refl

-- ---- a right side

module _ (literals : List ℕ) (l : ℕ) (bounds : List ℕ) where
  pub plain_within : literal_column literals l operation_column ≡ no_operation → (n : ℕ) → TermWithin (literal_column literals l first_column) bounds n → SideWithin literals l bounds n
  unfolding side_at side_overflows side?
  plain_within e n t =
      let z = eq-eqb (literal_column literals l operation_column) no_operation e in
      record { stays = λ names ρ w. rw z; small = λ names ρ w v k. t.small ρ w v (rw z at k) }

  module _ (e : literal_column literals l operation_column ≡ no_operation → ⊥) (m n : ℕ) (first : TermWithin (literal_column literals l first_column) bounds m) (second : TermWithin (literal_column literals l second_column) bounds n) where
    computed_within : reached (operation_at (literal_column literals l operation_column)) m n ≤ greatest → SideWithin literals l bounds (reached (operation_at (literal_column literals l operation_column)) m n)
    unfolding side_at side_overflows side?
    computed_within g =
        let z = ne_eqb (literal_column literals l operation_column) no_operation e in
        record {
          stays = λ names ρ w. rw z (fits_all _ (λ c k. (operated_small names (operation_at (literal_column literals l operation_column)) m n (value? ρ (term_of (literal_column literals l first_column))) (value? ρ (term_of (literal_column literals l second_column))) (first.small ρ w) (second.small ρ w) g c k).0));
          small = λ names ρ w v k. (operated_small names (operation_at (literal_column literals l operation_column)) m n (value? ρ (term_of (literal_column literals l first_column))) (value? ρ (term_of (literal_column literals l second_column))) (first.small ρ w) (second.small ρ w) g v (rw z at k)).1;
        }

    pub sum_within : literal_column literals l operation_column < 2 → m + n ≤ greatest → SideWithin literals l bounds (m + n)
    sum_within h g = let e = sums (literal_column literals l operation_column) m n h in rw e at (computed_within (rw e g))

    pub product_within : 2 ≤ literal_column literals l operation_column → m * n ≤ greatest → SideWithin literals l bounds (m * n)
    product_within h g = let e = multiplies (literal_column literals l operation_column) m n h in rw e at (computed_within (rw e g))

-- ---- literals

module _ (literals : List ℕ) (l : ℕ) (bounds : List ℕ) where
  pub literal_within : 2 ≤ literal_column literals l sort_column → (n : ℕ) → SideWithin literals l bounds n → (names : List Bytes) (ρ : Values ℕ) → Within bounds ρ → literal_overflows (codes names) code_in_range ρ (literal_at literals l) ≡ false
  unfolding literal_at literal_overflows
  literal_within h n s names ρ w = rw (ne_eqb (literal_column literals l sort_column) 0 (λ e. omega arith), ne_eqb (literal_column literals l sort_column) 1 (λ e. omega arith)) (s.stays names ρ w)

-- no literal among so many passes a test
pub none_passes : (f : Literal ℕ → Bool) (literals : List ℕ) (n k : ℕ) → ((l : ℕ) → k ≤ l → l < k + n → f (literal_at literals l) ≡ false) → any f (from (literal_at literals) n k) ≡ false
unfolding any from
none_passes f literals zero k h = refl
none_passes f literals (suc n) k h = rw (h k (omega arith) (omega arith)) (none_passes f literals n (suc k) (λ l a b. h l (omega arith) (omega arith)))
