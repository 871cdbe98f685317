-- Bounds of the variables that equations give values to, one equation after the other.
use mathlib.Core.Path.{◌≡◌, refl, sym, ◌∙◌}
use mathlib.Core.List.{List, map}
use Prim.Native.Nat.{ℕ, ◌+◌, ◌≤◌, ◌<◌}
use native.Mathlib.Decide.{ℕ_discrete}
use native.Mathlib.Numerals.{add-one}
use native.Mathlib.Omega.{arith}
use borrow.Author.Tests.{eq-eqb, ne_eqb}
use lib.ListN.{length, get_or, set, drop, length-set, drop_of_length-le}
use lib.Seq.{drop-cons, get_or-set_same, get_or-set_other}
use Rattle.meaning.specs.Rules.{Bytes}
use Rattle.meaning.specs.Matchings.{Values, side?}
use Rattle.meaning.specs.Matcher.{set_to, complete}
use Rattle.codes.specs.Domains.{codes}
use Rattle.tables.specs.Layout.{terms_column}
use Rattle.tables.specs.Rows.{literal_column, side_at, equation_at}
use Rattle.magnitudes.specs.Sizes.{greatest, Within, Modest, SideWithin}

module _ (literals places bounds₀ : List ℕ) where
  -- behind i equations: values within the bounds, which the others complete to what all complete
  pub record Bounding (i : ℕ) (bounds : List ℕ) : Type 0 where
    pub long : length bounds ≡ length bounds₀
    pub modest : Modest bounds
    pub so : (names : List Bytes) (ρ : Values ℕ) → Within bounds₀ ρ → (π : Values ℕ) × Within bounds π × (complete (codes names) (map (equation_at literals) places) ρ ≡ complete (codes names) (map (equation_at literals) (drop i places)) π)

  pub bounding_none : Modest bounds₀ → Bounding 0 bounds₀
  bounding_none m = record { long = refl; modest = m; so = λ names ρ w. (ρ, w, refl) }

  pub bounding_all : (i : ℕ) (bounds : List ℕ) → length places ≤ i → Bounding i bounds → (names : List Bytes) (ρ : Values ℕ) → Within bounds₀ ρ → Within bounds (complete (codes names) (map (equation_at literals) places) ρ)
  unfolding complete
  bounding_all i bounds h b names ρ w =
      let q = b.so names ρ w in
      let e : complete (codes names) (map (equation_at literals) places) ρ ≡ q.0 = q.2 ∙ rw (drop_of_length-le places h) refl in
      rw e q.1

  module _ (i : ℕ) (bounds : List ℕ) (b : Bounding i bounds) (h : i < length places) (wide : 16 ≤ length bounds₀) where
    abbrev here : ℕ
    here = get_or places i 0

    module _ (n : ℕ) (left : literal_column literals here terms_column < 16) (modest : n ≤ greatest) (s : SideWithin literals here bounds n) where
      abbrev left_of : ℕ
      left_of = literal_column literals here terms_column

      inside : left_of < length bounds
      inside = omega (arith, b.long)

      still_modest : Modest (set bounds left_of n)
      still_modest x k = elim (ℕ_discrete x left_of) [ yes e ↦ rw (e, get_or-set_same bounds left_of n 0 inside) modest | no e ↦ rw (get_or-set_other bounds left_of x n 0 e) (b.modest x k) ]

      still_within : (names : List Bytes) (π : Values ℕ) → Within bounds π → Within (set bounds left_of n) (set_to π left_of (side? (codes names) π (side_at literals here)))
      unfolding set_to
      still_within names π w x v k e = elim (ℕ_discrete x left_of) [
        | yes z ↦ rw (z, get_or-set_same bounds left_of n 0 inside) (s.small names π w v (rw (eq-eqb left_of x (sym z)) at e))
        | no z ↦ rw (get_or-set_other bounds left_of x n 0 z) (w x v k (rw (ne_eqb left_of x (λ y. z (sym y))) at e))
      ]

      pub bounding_one : Bounding (i + 1) (set bounds left_of n)
      unfolding complete equation_at
      bounding_one = record { long = long' ∙ b.long; modest = still_modest; so = so' }
        where
          long' : length (set bounds left_of n) ≡ length bounds
          long' = simp length-set

          so' : (names : List Bytes) (ρ : Values ℕ) → Within bounds₀ ρ → (π : Values ℕ) × Within (set bounds left_of n) π × (complete (codes names) (map (equation_at literals) places) ρ ≡ complete (codes names) (map (equation_at literals) (drop (i + 1) places)) π)
          so' names ρ w =
              let q = b.so names ρ w in
              (set_to q.0 left_of (side? (codes names) q.0 (side_at literals here)), still_within names q.0 q.1, q.2 ∙ rw (drop-cons places i 0 h, add-one) refl)
