-- Laws of `every` beside `prefix_len`: a prefix passes, and what goes beyond it does not.
use Prim.Native.Nat.{ℕ, zero, suc, ◌≤◌, ◌<◌}
use native.Mathlib.Omega.{arith}
use mathlib.Core.Path.{◌≡◌, refl}
use mathlib.Core.Bool.{Bool, true, false, true≢false}
use mathlib.Core.List.{List, [], ◌∷◌}
use lib.ListN.{length, take}
use Rattle.texts.specs.Prefix.{prefix_len, every}
use Rattle.texts.proofs.Prefix.{prefix_more, prefix_none}

module _ (p : ℕ → Bool) where
  pub every_nil : every p [] ≡ true
  unfolding every
  every_nil = refl

  pub prefix_inside : (s : List ℕ) → prefix_len p s ≤ length s
  unfolding prefix_len
  prefix_inside [] = omega arith
  prefix_inside (b ∷ rest) = go (p b) refl (prefix_inside rest)
    where
      go : (t : Bool) → p b ≡ t → prefix_len p rest ≤ length rest → prefix_len p (b ∷ rest) ≤ length (b ∷ rest)
      go true e ih = rw e (omega arith)
      go false e ih = rw e (omega arith)

  pub every_prefix : (s : List ℕ) → every p (take (prefix_len p s) s) ≡ true
  unfolding every prefix_len
  every_prefix [] = refl
  every_prefix (b ∷ rest) = go (p b) refl (every_prefix rest)
    where
      go : (t : Bool) → p b ≡ t → every p (take (prefix_len p rest) rest) ≡ true → every p (take (prefix_len p (b ∷ rest)) (b ∷ rest)) ≡ true
      go true e ih = rw (prefix_more p b rest e, e) ih
      go false e ih = rw (prefix_none p b rest e)

  pub not_every_beyond : (s : List ℕ) (n : ℕ) → prefix_len p s < n → n ≤ length s → every p (take n s) ≡ false
  unfolding every
  not_every_beyond [] n h k = absurd (let z : ⊥ = omega arith in z)
  not_every_beyond (b ∷ rest) zero h k = absurd (let z : ⊥ = omega arith in z)
  not_every_beyond (b ∷ rest) (suc n) h k = go (p b) refl (not_every_beyond rest n)
    where
      go : (t : Bool) → p b ≡ t → (prefix_len p rest < n → n ≤ length rest → every p (take n rest) ≡ false) → every p (take (suc n) (b ∷ rest)) ≡ false
      go true e ih = rw e (ih (let z : suc (prefix_len p rest) < suc n = rw (prefix_more p b rest e) at h in omega arith) (omega arith))
      go false e ih = rw e

  pub not_every_longer : (s : List ℕ) (m n : ℕ) → every p (take m s) ≡ false → m ≤ n → every p (take n s) ≡ false
  unfolding every
  not_every_longer s zero n e h = absurd (true≢false e)
  not_every_longer [] (suc m) n e h = absurd (true≢false e)
  not_every_longer (b ∷ rest) (suc m) zero e h = absurd (let z : ⊥ = omega arith in z)
  not_every_longer (b ∷ rest) (suc m) (suc n) e h = go (p b) refl (not_every_longer rest m n)
    where
      go : (t : Bool) → p b ≡ t → (every p (take m rest) ≡ false → m ≤ n → every p (take n rest) ≡ false) → every p (take (suc n) (b ∷ rest)) ≡ false
      go true q ih = rw q (ih (rw q at e) (omega arith))
      go false q ih = rw q
