-- Codes compare as numbers do, and two names or two strings as their ranks do.
use mathlib.Core.Path.{◌≡◌, refl, sym, ap, ap₂, ◌∙◌}
use mathlib.Core.Bool.{Bool, true, false, not, cond}
use mathlib.Core.List.{List}
use Prim.Native.Nat.{ℕ, ◌<◌}
use native.Mathlib.Omega.{arith}
use borrow.Author.Tests.{eqb-false, eq-eqb, ne_eqb}
use lib.Dec.{eqb, ltb}
use lib.ListN.{length, get_or}
use Rattle.meaning.specs.Domain.{Comparison, equal, unequal, less, at_most, greater, at_least}
use Rattle.meaning.specs.Rules.{Bytes}
use Rattle.meaning.specs.Values.{compare_by}
use Rattle.codes.specs.Codes.{no_value}
use Rattle.codes.specs.Arithmetic.{comparison_at}
use Rattle.codes.specs.Domains.{place_of, two_texts, code_before, codes}
use Rattle.codes.proofs.Order.{compare_alike, text_inside, are_two, turned, by_bytes, by_code, itself}
use Rattle.ranks.specs.Ranks.{Ranked}

-- ---- comparisons by their numbers

module _ (P : Comparison → Type 0) (n : ℕ) where
  for_equality : n < 2 → P equal → P unequal → P (comparison_at n)
  unfolding comparison_at
  for_equality h e u = go (eqb n 0) refl
    where
      go : (t : Bool) → eqb n 0 ≡ t → P (comparison_at n)
      go true z = rw z e
      go false z = rw (z, eq-eqb n 1 (let d = eqb-false n 0 z in omega arith)) u

  for_order : 1 < n → P less → P at_most → P greater → P at_least → P (comparison_at n)
  unfolding comparison_at
  for_order h l m g a = rw (ne_eqb n 0 (λ e. omega arith), ne_eqb n 1 (λ e. omega arith)) (go (eqb n 2) (eqb n 3) (eqb n 4))
    where
      go : (x y z : Bool) → P (cond x less (cond y at_most (cond z greater at_least)))
      go true y z = l
      go false true z = m
      go false false true = g
      go false false false = a

-- ---- two codes

module _ (names : List Bytes) (n c d : ℕ) where
  pub by_equality : n < 2 → compare_by eqb ltb (comparison_at n) c d ≡ (codes names).compare (comparison_at n) c d
  unfolding compare_by
  by_equality h = for_equality (λ k. compare_by eqb ltb k c d ≡ (codes names).compare k c d) n h refl refl

  module _ (ranks : List ℕ) (ranked : Ranked names ranks) where
    pub by_codes : no_value < c → no_value < d → two_texts (length ranks) c d ≡ false → compare_by eqb ltb (comparison_at n) c d ≡ (codes names).compare (comparison_at n) c d
    by_codes p q two = compare_alike eqb ltb eqb (code_before names) (comparison_at n) c d c d refl (before c d p q two) (before d c q p (turned (length ranks) d c ∙ two))
      where
        before : (a b : ℕ) → no_value < a → no_value < b → two_texts (length ranks) a b ≡ false → ltb a b ≡ code_before names a b
        before a b l m t = sym (by_code names a b (rw (← ranked.each) t) ∙ ap₂ ltb (itself a (λ e. omega arith)) (itself b (λ e. omega arith)))

    -- the rank of what a code stands for
    abbrev rank : ℕ → ℕ
    rank a = get_or ranks (place_of a) 0

    pub by_ranks : 1 < n → two_texts (length ranks) c d ≡ true → (a b : ℕ) → a ≡ rank c → b ≡ rank d → compare_by eqb ltb (comparison_at n) a b ≡ (codes names).compare (comparison_at n) c d
    unfolding compare_by
    by_ranks h two a b p q = rw (p, q) (for_order (λ k. compare_by eqb ltb k (rank c) (rank d) ≡ (codes names).compare k c d) n h one (ap not other) other (ap not one))
      where
        before : (x y : ℕ) → two_texts (length ranks) x y ≡ true → ltb (rank x) (rank y) ≡ code_before names x y
        before x y t =
            let both = are_two (length ranks) x y t in
            let long = ranked.each in
            let i = (text_inside (length ranks) x both.first).1 in
            let j = (text_inside (length ranks) y both.second).1 in
            ranked.order (place_of x) (place_of y) (omega arith) (omega arith) ∙ sym (by_bytes names x y (rw (← long) t))

        one : ltb (rank c) (rank d) ≡ code_before names c d
        one = before c d two

        other : ltb (rank d) (rank c) ≡ code_before names d c
        other = before d c (turned (length ranks) d c ∙ two)
