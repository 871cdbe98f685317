-- Laws of `capped` and `decimal_after`.
use Prim.Native.Nat.{ℕ, ◌+◌, ◌*◌, ◌-◌, ◌<◌, ◌≤◌}
use native.Mathlib.Omega.{arith}
use mathlib.Core.Bool.{Bool, true, false}
use mathlib.Core.Path.{◌≡◌, refl, sym, ap, ◌∙◌}
use mathlib.Core.Logic.{◌⊎◌, inl, inr, ⊎_elim}
use mathlib.Core.List.{List, [], ◌∷◌}
use lib.Dec.{leb}
use lib.ListN.{length, get_or, drop, drop_of_length-le}
use borrow.Author.Tests.{le-leb, lt-leb, leb-true, leb-false}
use Rattle.lexis.specs.Number.{capped, decimal_after}
use Rattle.texts.proofs.Prefix.{drop_at}

pub capped_within : (n : ℕ) → n ≤ 1000000000 → capped n ≡ n
unfolding capped
capped_within n h = simp (le-leb n 1000000000 h)

pub capped_over : (n : ℕ) → 1000000000 < n → capped n ≡ 1000000001
unfolding capped
capped_over n h = simp (lt-leb n 1000000000 h)

-- a number is within its size or over it
pub within_or_over : (n : ℕ) → (n ≤ 1000000000) ⊎ (1000000000 < n)
within_or_over n = go (leb n 1000000000) refl
  where
    go : (t : Bool) → leb n 1000000000 ≡ t → (n ≤ 1000000000) ⊎ (1000000000 < n)
    go true e = inl (leb-true n 1000000000 e)
    go false e = inr (leb-false n 1000000000 e)

pub capped_twice : (n : ℕ) → capped (capped n) ≡ capped n
capped_twice n =
    ⊎_elim (λ h. ap capped (capped_within n h))
    (λ h. rw (capped_over n h) (capped_over 1000000001 (omega arith)))
    (within_or_over n)

-- a number that is over its size stays over, whatever digits follow
over_stays : (n : ℕ) (rest : List ℕ) → 1000000000 < n → capped (decimal_after n rest) ≡ 1000000001
unfolding decimal_after
over_stays n [] h = capped_over n h
over_stays n (digit ∷ rest) h = over_stays (n * 10 + (digit - 48)) rest (omega arith)

-- so capping on the way is harmless
pub capped_early : (n : ℕ) (rest : List ℕ) → capped (decimal_after (capped n) rest) ≡ capped (decimal_after n rest)
capped_early n rest =
    ⊎_elim (λ h. ap (λ (m : ℕ). capped (decimal_after m rest)) (capped_within n h))
    (λ h. over_stays (capped n) rest (rw (capped_over n h) (omega arith)) ∙ sym (over_stays n rest h))
    (within_or_over n)

module _ (n : ℕ) (s : List ℕ) (i : ℕ) where
  pub decimal_end : length s ≤ i → decimal_after n (drop i s) ≡ n
  unfolding decimal_after
  decimal_end h = rw (drop_of_length-le s h)

  -- one digit more: what the rest says after n is what the rest behind the digit says after m
  pub decimal_on : (m : ℕ) → i < length s → m ≡ capped (n * 10 + (get_or s i 0 - 48)) → capped (decimal_after n (drop i s)) ≡ capped (decimal_after m (drop (i + 1) s))
  unfolding decimal_after
  decimal_on m h e = rw (drop_at s i h, e, capped_early)
