-- The bits of a number, one after the other, and those of what `&`, `|` and `!` make of words.
use mathlib.Core.Path.{◌≡◌, refl, sym, ap, ◌∙◌}
use mathlib.Core.Bool.{not, ◌&&◌, ◌||◌}
use Prim.Native.Nat.{ℕ, zero, suc, ◌+◌, ◌-◌, ◌/◌, ◌%◌, ◌^◌, ◌<◌}
use native.Mathlib.Nat.{mod-lt, pow-suc}
use native.Mathlib.Numerals.{add-one, one-add}
use native.Mathlib.Omega.{arith}
use lib.Dec.{eqb, lit<}
use lib.Pow.{pow_pos, shr-shr, field, mod-mod-pow}
use lib.Bits.{bit_and, bit_or, and_shr, and_mod, or_shr, or_mod}
use Rattle.derived_set.specs.Members.{bit}

-- ---- one after the other

pub bit_first : (x : ℕ) → bit x 0 ≡ eqb (x % 2) 1
unfolding bit
bit_first x = let whole : x / 1 ≡ x = omega arith in rw whole refl

pub bit_past : (x j a : ℕ) → bit x (j + a) ≡ bit (x / 2 ^ j) a
unfolding bit
bit_past x j a = ap (λ (n : ℕ). eqb (n % 2) 1) (sym (shr-shr x j a))

pub bit_next : (x a : ℕ) → bit x (suc a) ≡ bit (x / 2) a
bit_next x a = ap (bit x) (sym (one-add a)) ∙ bit_past x 1 a

pub bit_low : (n x a : ℕ) → a < n → bit (x % 2 ^ n) a ≡ bit x a
bit_low zero x a h = absurd (omega arith)
bit_low (suc n) x zero h = bit_first (x % 2 ^ suc n) ∙ ap (λ (r : ℕ). eqb r 1) (ap (λ (m : ℕ). x % 2 ^ m % 2) (sym (add-one n)) ∙ mod-mod-pow x n 1) ∙ sym (bit_first x)
bit_low (suc n) x (suc a) h = bit_next (x % 2 ^ suc n) a ∙ ap (λ (y : ℕ). bit y a) (ap (λ (m : ℕ). x % 2 ^ m / 2) (sym (add-one n)) ∙ field x n 1) ∙ bit_low n (x / 2) a (omega arith) ∙ sym (bit_next x a)

-- ---- of two words

digit_or : (r s : ℕ) → r < 2 → s < 2 → eqb (bit_or r s) 1 ≡ (eqb r 1 || eqb s 1)
digit_or zero zero h k = refl
digit_or zero (suc zero) h k = refl
digit_or (suc zero) zero h k = refl
digit_or (suc zero) (suc zero) h k = refl
digit_or (suc (suc r)) s h k = absurd (omega arith)
digit_or zero (suc (suc s)) h k = absurd (omega arith)
digit_or (suc zero) (suc (suc s)) h k = absurd (omega arith)

digit_and : (r s : ℕ) → r < 2 → s < 2 → eqb (bit_and r s) 1 ≡ (eqb r 1 && eqb s 1)
digit_and zero zero h k = refl
digit_and zero (suc zero) h k = refl
digit_and (suc zero) zero h k = refl
digit_and (suc zero) (suc zero) h k = refl
digit_and (suc (suc r)) s h k = absurd (omega arith)
digit_and zero (suc (suc s)) h k = absurd (omega arith)
digit_and (suc zero) (suc (suc s)) h k = absurd (omega arith)

module _ (x y j : ℕ) where
  pub bit_or_lem : bit (bit_or x y) j ≡ (bit x j || bit y j)
  unfolding bit
  bit_or_lem = ap (λ (n : ℕ). eqb n 1) (ap (λ (n : ℕ). n % 2) (or_shr x y j) ∙ or_mod (x / 2 ^ j) (y / 2 ^ j) 1) ∙ digit_or (x / 2 ^ j % 2) (y / 2 ^ j % 2) (mod-lt _ (lit< tt)) (mod-lt _ (lit< tt))

  pub bit_and_lem : bit (bit_and x y) j ≡ (bit x j && bit y j)
  unfolding bit
  bit_and_lem = ap (λ (n : ℕ). eqb n 1) (ap (λ (n : ℕ). n % 2) (and_shr x y j) ∙ and_mod (x / 2 ^ j) (y / 2 ^ j) 1) ∙ digit_and (x / 2 ^ j % 2) (y / 2 ^ j % 2) (mod-lt _ (lit< tt)) (mod-lt _ (lit< tt))

-- ---- of a word turned over

digit_not : (r s : ℕ) → r + s ≡ 1 → eqb r 1 ≡ not (eqb s 1)
digit_not zero (suc zero) h = refl
digit_not (suc zero) zero h = refl
digit_not zero zero h = absurd (omega arith)
digit_not zero (suc (suc s)) h = absurd (omega arith)
digit_not (suc zero) (suc s) h = absurd (omega arith)
digit_not (suc (suc r)) s h = absurd (omega arith)

pub bit_not : (n x j : ℕ) → x < 2 ^ n → j < n → bit (2 ^ n - 1 - x) j ≡ not (bit x j)
bit_not zero x j h k = absurd (omega arith)
bit_not (suc n) x zero h k = bit_first (2 ^ suc n - 1 - x) ∙ digit_not ((2 ^ suc n - 1 - x) % 2) (x % 2) (omega (arith, pow-suc 2 n, pow_pos n)) ∙ ap not (sym (bit_first x))
bit_not (suc n) x (suc j) h k =
    let half : (2 ^ suc n - 1 - x) / 2 ≡ 2 ^ n - 1 - x / 2 = omega (arith, pow-suc 2 n) in
    bit_next (2 ^ suc n - 1 - x) j ∙ ap (λ (y : ℕ). bit y j) half ∙ bit_not n (x / 2) j (omega (arith, pow-suc 2 n)) (omega arith) ∙ ap not (sym (bit_next x j))
