-- The number of a set, as far as a list goes: its bits, and the numbers that are one.
use mathlib.Core.Path.{◌≡◌, refl, ap, ◌∙◌}
use mathlib.Core.Bool.{Bool, true, false, ◌&&◌, false≢true}
use mathlib.Core.List.{List, [], ◌∷◌, map}
use Prim.Native.Nat.{ℕ, zero, suc, ◌+◌, ◌*◌, ◌/◌, ◌%◌, ◌^◌, ◌<◌}
use native.Mathlib.Nat.{pow-suc}
use native.Mathlib.Omega.{arith}
use lib.Dec.{eqb}
use lib.ListN.{length, get_or}
use Rattle.meaning.specs.Sets.{every, one_if, number}
use Rattle.derived_set.specs.Members.{bit}
use Rattle.subsets.proofs.Bits.{bit_first, bit_next}

-- ---- its first digit, and the rest

digit : (b : Bool) (n : ℕ) → eqb ((one_if b + 2 * n) % 2) 1 ≡ b
digit true n = let e : (1 + 2 * n) % 2 ≡ 1 = omega arith in rw e refl
digit false n = let e : (0 + 2 * n) % 2 ≡ 0 = omega arith in rw e refl

rest : (b : Bool) (n : ℕ) → (one_if b + 2 * n) / 2 ≡ n
rest true n = omega arith
rest false n = omega arith

one_digit : (b : Bool) (J : ℕ) → b ≡ bit J 0 → one_if b ≡ J % 2
one_digit b J e = ap one_if (e ∙ bit_first J) ∙ at (J % 2) (omega arith)
  where
    at : (r : ℕ) → r < 2 → one_if (eqb r 1) ≡ r
    at zero h = refl
    at (suc zero) h = refl
    at (suc (suc r)) h = absurd (omega arith)

-- ---- its bits

module _ {A : Type 0} where
  pub number_small : (f : A → Bool) (l : List A) → number f l < 2 ^ length l
  unfolding number
  number_small f [] = omega arith
  number_small f (x ∷ xs) = go (f x) (number f xs) (number_small f xs)
    where
      go : (b : Bool) (n : ℕ) → n < 2 ^ length xs → one_if b + 2 * n < 2 ^ suc (length xs)
      go true n h = omega (arith, pow-suc 2 (length xs))
      go false n h = omega (arith, pow-suc 2 (length xs))

  pub number_bit : (f : A → Bool) (l : List A) (i : ℕ) → i < length l → bit (number f l) i ≡ get_or (map f l) i false
  unfolding number
  number_bit f [] i h = absurd (omega arith)
  number_bit f (x ∷ xs) zero h = bit_first _ ∙ digit (f x) (number f xs)
  number_bit f (x ∷ xs) (suc i) h = bit_next _ i ∙ ap (λ (n : ℕ). bit n i) (rest (f x) (number f xs)) ∙ number_bit f xs i (omega arith)

  -- a set whose members are at the bits of J has the number J
  pub bits_number : (g : A → Bool) (l : List A) (J : ℕ) → J < 2 ^ length l → ((i : ℕ) → i < length l → get_or (map g l) i false ≡ bit J i) → number g l ≡ J
  unfolding number
  bits_number g [] J h same = omega arith
  bits_number g (x ∷ xs) J h same =
      let first : one_if (g x) ≡ J % 2 = one_digit (g x) J (same 0 (omega arith)) in
      let others : number g xs ≡ J / 2 = bits_number g xs (J / 2) (omega (arith, pow-suc 2 (length xs))) (λ i l. same (suc i) (omega arith) ∙ bit_next J i) in
      omega arith

  -- ---- all of them

  pub all_number : (f : A → Bool) (l : List A) → every f l ≡ true → suc (number f l) ≡ 2 ^ length l
  unfolding every number
  all_number f [] h = refl
  all_number f (x ∷ xs) h = go (f x) (all_number f xs) h
    where
      go : (b : Bool) → (every f xs ≡ true → suc (number f xs) ≡ 2 ^ length xs) → (b && every f xs) ≡ true → suc (one_if b + 2 * number f xs) ≡ 2 ^ suc (length xs)
      go true others e = omega (arith, others e, pow-suc 2 (length xs))
      go false others e = absurd (false≢true e)

  pub number_all : (f : A → Bool) (l : List A) → suc (number f l) ≡ 2 ^ length l → every f l ≡ true
  unfolding every number
  number_all f [] h = refl
  number_all f (x ∷ xs) h = go (f x) (number_all f xs) h
    where
      go : (b : Bool) → (suc (number f xs) ≡ 2 ^ length xs → every f xs ≡ true) → suc (one_if b + 2 * number f xs) ≡ 2 ^ suc (length xs) → (b && every f xs) ≡ true
      go true others e = others (omega (arith, pow-suc 2 (length xs)))
      go false others e = absurd (omega (arith, pow-suc 2 (length xs)))
