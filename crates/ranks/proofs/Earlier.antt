-- Laws of `bytes_before`: it goes one way, it tells any two names apart, and what does not come before does so through a third.
use mathlib.Core.Path.{◌≡◌, refl, sym, ap₂, ◌∙◌}
use mathlib.Core.Bool.{Bool, true, false, true≢false}
use mathlib.Core.Logic.{◌⊎◌, inl, inr}
use mathlib.Core.List.{[], ◌∷◌}
use Prim.Native.Nat.{ℕ, ◌<◌}
use native.Mathlib.Omega.{arith}
use borrow.Author.Tests.{eqb-true, eqb-false, eq-eqb, ne_eqb, ltb-true, ltb-false, le-ltb}
use lib.Dec.{eqb, ltb}
use Rattle.meaning.specs.Rules.{Bytes}
use Rattle.meaning.specs.Values.{bytes_before}

-- ---- the first bytes

module _ (x y : ℕ) (xs ys : Bytes) where
  first_differs : (x ≡ y → ⊥) → bytes_before (x ∷ xs) (y ∷ ys) ≡ ltb x y
  unfolding bytes_before
  first_differs n = rw (bytes_before, ne_eqb x y n)

  first_same : x ≡ y → bytes_before (x ∷ xs) (y ∷ ys) ≡ bytes_before xs ys
  unfolding bytes_before
  first_same e = rw (bytes_before, eq-eqb x y e)

  later : y < x → bytes_before (x ∷ xs) (y ∷ ys) ≡ false
  later h = first_differs (λ e. omega arith) ∙ le-ltb x y (omega arith)

  is_before : bytes_before (x ∷ xs) (y ∷ ys) ≡ true → (x < y) ⊎ ((x ≡ y) × (bytes_before xs ys ≡ true))
  is_before h = go (eqb x y) refl
    where
      go : (t : Bool) → eqb x y ≡ t → (x < y) ⊎ ((x ≡ y) × (bytes_before xs ys ≡ true))
      go true e = inr (eqb-true x y e, sym (first_same (eqb-true x y e)) ∙ h)
      go false e = inl (ltb-true x y (sym (first_differs (eqb-false x y e)) ∙ h))

  is_not_before : bytes_before (x ∷ xs) (y ∷ ys) ≡ false → (y < x) ⊎ ((x ≡ y) × (bytes_before xs ys ≡ false))
  is_not_before h = go (eqb x y) refl
    where
      go : (t : Bool) → eqb x y ≡ t → (y < x) ⊎ ((x ≡ y) × (bytes_before xs ys ≡ false))
      go true e = inr (eqb-true x y e, sym (first_same (eqb-true x y e)) ∙ h)
      go false e = let n = eqb-false x y e in inl (let l = ltb-false x y (sym (first_differs n) ∙ h) in omega arith)

-- ---- the whole

pub never_itself : (a : Bytes) → bytes_before a a ≡ false
unfolding bytes_before
never_itself [] = refl
never_itself (x ∷ xs) = first_same x x xs xs refl ∙ never_itself xs

pub one_way : (a b : Bytes) → bytes_before a b ≡ true → bytes_before b a ≡ false
unfolding bytes_before
one_way [] [] h = refl
one_way [] (y ∷ ys) h = refl
one_way (x ∷ xs) [] h = absurd (true≢false (sym h))
one_way (x ∷ xs) (y ∷ ys) h = elim (is_before x y xs ys h) [ inl l ↦ later y x ys xs l | inr e ↦ first_same y x ys xs (sym e.0) ∙ one_way xs ys e.1 ]

pub neither_same : (a b : Bytes) → bytes_before a b ≡ false → bytes_before b a ≡ false → a ≡ b
unfolding bytes_before
neither_same [] [] h k = refl
neither_same [] (y ∷ ys) h k = absurd (true≢false h)
neither_same (x ∷ xs) [] h k = absurd (true≢false k)
neither_same (x ∷ xs) (y ∷ ys) h k = go (is_not_before x y xs ys h) (is_not_before y x ys xs k) (neither_same xs ys)
  where
    go : (y < x) ⊎ ((x ≡ y) × (bytes_before xs ys ≡ false)) → (x < y) ⊎ ((y ≡ x) × (bytes_before ys xs ≡ false)) → (bytes_before xs ys ≡ false → bytes_before ys xs ≡ false → xs ≡ ys) → ◌≡◌ {A = Bytes} (x ∷ xs) (y ∷ ys)
    go (inl l) (inl m) more = absurd (omega arith)
    go (inl l) (inr f) more = let g = f.0 in absurd (omega arith)
    go (inr e) (inl m) more = let g = e.0 in absurd (omega arith)
    go (inr e) (inr f) more = ap₂ (λ v vs. v ∷ vs) e.0 (more e.1 f.1)

pub through : (a b c : Bytes) → bytes_before b a ≡ false → bytes_before c b ≡ false → bytes_before c a ≡ false
unfolding bytes_before
through [] b [] h k = refl
through [] b (z ∷ zs) h k = refl
through (x ∷ xs) [] c h k = absurd (true≢false h)
through (x ∷ xs) (y ∷ ys) [] h k = absurd (true≢false k)
through (x ∷ xs) (y ∷ ys) (z ∷ zs) h k = go (is_not_before y x ys xs h) (is_not_before z y zs ys k) (through xs ys zs)
  where
    go : (x < y) ⊎ ((y ≡ x) × (bytes_before ys xs ≡ false)) → (y < z) ⊎ ((z ≡ y) × (bytes_before zs ys ≡ false)) → (bytes_before ys xs ≡ false → bytes_before zs ys ≡ false → bytes_before zs xs ≡ false) → bytes_before (z ∷ zs) (x ∷ xs) ≡ false
    go (inl l) (inl m) more = later z x zs xs (omega arith)
    go (inl l) (inr f) more = let g = f.0 in later z x zs xs (omega arith)
    go (inr e) (inl m) more = let g = e.0 in later z x zs xs (omega arith)
    go (inr e) (inr f) more = first_same z x zs xs (f.0 ∙ e.0) ∙ more e.1 f.1
