-- Laws of masks: a mask with one fact more, no mask, and a mask of a body beside one of heads.
use mathlib.Core.Path.{◌≡◌, refl, sym, ◌∙◌}
use mathlib.Core.Bool.{true, false, not, ◌&&◌, true≢false}
use mathlib.Core.Logic.{◌⊎◌, inl, inr}
use Prim.Native.Nat.{ℕ, ◌^◌, ◌<◌}
use borrow.Author.Tests.{eq-eqb, eqb-true}
use lib.Dec.{eqb}
use lib.Bits.{bit_or}
use Rattle.meaning.proofs.Booleans.{and_left, and_right, and_both, or_cases, or_left, or_right, not_true, both_ways}
use Rattle.derived_set.specs.Members.{bit}
use Rattle.derived_set.proofs.Bits.{bit_zero}
use Rattle.subsets.specs.Table.{refutes}
use Rattle.subsets.proofs.Refuting.{refutes_says, says_refutes}
use Rattle.subsets.proofs.Masks.{mask_more}
use Rattle.subset_test.specs.Stands.{has_all, has_none}

-- no fact stands in no mask
no_bit : {A : Type 0} (a : ℕ) → bit 0 a ≡ true → A
no_bit a e = absurd (true≢false (sym e ∙ bit_zero a))

pub all_of_none : (J : ℕ) → has_all 0 J ≡ true
all_of_none J = says_refutes 0 0 J (λ a l e. no_bit a e) (λ a l e. no_bit a e)

pub none_of_none : (J : ℕ) → has_none 0 J ≡ true
none_of_none J = all_of_none J

pub refutes_both : (b h J : ℕ) → refutes b h J ≡ (has_all b J && has_none h J)
refutes_both b h J = both_ways _ _ to from
  where
    to : refutes b h J ≡ true → (has_all b J && has_none h J) ≡ true
    to e = let s = refutes_says b h J e in and_both _ _ (says_refutes b 0 J s.0 (λ a l k. no_bit a k)) (says_refutes 0 h J (λ a l k. no_bit a k) s.1)

    from : (has_all b J && has_none h J) ≡ true → refutes b h J ≡ true
    from e = says_refutes b h J (refutes_says b 0 J (and_left (has_all b J) (has_none h J) e)).0 (refutes_says 0 h J (and_right (has_all b J) (has_none h J) e)).1

-- ---- one fact more

module _ (m a J : ℕ) (few : a < 20) where
  bit_more : (j : ℕ) → bit (bit_or m (2 ^ a)) j ≡ true → (j ≡ a) ⊎ (bit m j ≡ true)
  bit_more j e = go (or_cases (eqb j a) (bit m j) (sym (mask_more m a j) ∙ e))
    where
      go : (eqb j a ≡ true) ⊎ (bit m j ≡ true) → (j ≡ a) ⊎ (bit m j ≡ true)
      go (inl k) = inl (eqb-true j a k)
      go (inr k) = inr k

  bit_still : (j : ℕ) → bit m j ≡ true → bit (bit_or m (2 ^ a)) j ≡ true
  bit_still j e = mask_more m a j ∙ or_right (eqb j a) (bit m j) e

  bit_there : bit (bit_or m (2 ^ a)) a ≡ true
  bit_there = mask_more m a a ∙ or_left (eqb a a) (bit m a) (eq-eqb a a refl)

  pub all_more : has_all (bit_or m (2 ^ a)) J ≡ (has_all m J && bit J a)
  all_more = both_ways _ _ to from
    where
      to : has_all (bit_or m (2 ^ a)) J ≡ true → (has_all m J && bit J a) ≡ true
      to e = let s = refutes_says (bit_or m (2 ^ a)) 0 J e in and_both _ _ (says_refutes m 0 J (λ j l k. s.0 j l (bit_still j k)) (λ j l k. no_bit j k)) (s.0 a few bit_there)

      from : (has_all m J && bit J a) ≡ true → has_all (bit_or m (2 ^ a)) J ≡ true
      from e = says_refutes (bit_or m (2 ^ a)) 0 J (λ j l k. each j l (bit_more j k)) (λ j l k. no_bit j k)
        where
          each : (j : ℕ) → j < 20 → (j ≡ a) ⊎ (bit m j ≡ true) → bit J j ≡ true
          each j l (inl z) = rw z (and_right (has_all m J) (bit J a) e)
          each j l (inr k) = (refutes_says m 0 J (and_left (has_all m J) (bit J a) e)).0 j l k

  pub none_more : has_none (bit_or m (2 ^ a)) J ≡ (has_none m J && not (bit J a))
  none_more = both_ways _ _ to from
    where
      to : has_none (bit_or m (2 ^ a)) J ≡ true → (has_none m J && not (bit J a)) ≡ true
      to e = let s = refutes_says 0 (bit_or m (2 ^ a)) J e in and_both _ _ (says_refutes 0 m J (λ j l k. no_bit j k) (λ j l k. s.1 j l (bit_still j k))) (rw (s.1 a few bit_there) refl)

      from : (has_none m J && not (bit J a)) ≡ true → has_none (bit_or m (2 ^ a)) J ≡ true
      from e = says_refutes 0 (bit_or m (2 ^ a)) J (λ j l k. no_bit j k) (λ j l k. each j l (bit_more j k))
        where
          each : (j : ℕ) → j < 20 → (j ≡ a) ⊎ (bit m j ≡ true) → bit J j ≡ false
          each j l (inl z) = rw z (not_true (bit J a) (and_right (has_none m J) (not (bit J a)) e))
          each j l (inr k) = (refutes_says 0 m J (and_left (has_none m J) (not (bit J a)) e)).1 j l k
