-- The numbers that a body and heads choose, in their order.
use mathlib.Core.Path.{◌≡◌, refl, sym, ap, ap₂, ◌∙◌}
use mathlib.Core.Bool.{Bool, true, false, not, cond, ◌&&◌, ◌||◌, false≢true}
use Prim.Native.Nat.{ℕ, zero, suc, ◌+◌, ◌-◌, ◌*◌, ◌/◌, ◌%◌, ◌^◌, ◌≤◌, ◌<◌, min, max}
use native.Mathlib.Nat.{zero-div, mod-lt, pow-suc}
use native.Mathlib.Decide.{ℕ_discrete}
use native.Mathlib.Numerals.{one-add}
use native.Mathlib.Omega.{arith}
use lib.Dec.{eqb, lit<}
use lib.Arith.{bin_ind}
use lib.Bits.{bit_and, bit_or, and_shr, and_step, or_shr, or_step, or_disjoint}
use Rattle.meaning.proofs.Booleans.{and_left, and_right}
use Rattle.derived_set.specs.Members.{bit}
use Rattle.derived_set.proofs.Bits.{bit_zero}
use Rattle.subsets.specs.Table.{all_below, suits}
use Rattle.subsets.proofs.Bits.{bit_first, bit_next, bit_or_lem, bit_and_lem}
use Rattle.subsets.proofs.Refuting.{all_below_same, all_below_joined, says_all_below}

-- two masks with no bit in common
abbrev pub Apart : ℕ → ℕ → Type 0
Apart x y = bit_and x y ≡ 0

apart_half : (x y : ℕ) → Apart x y → Apart (x / 2) (y / 2)
apart_half x y a = omega (arith, and_step x y)

apart_digit : (x y : ℕ) → Apart x y → x % 2 + y % 2 ≤ 1
apart_digit x y a = omega (arith, and_step x y)

halves_apart : (x y : ℕ) → Apart (x / 2) (y / 2) → x % 2 + y % 2 ≤ 1 → Apart x y
halves_apart x y a d = omega (arith, and_step x y)

apart_bits : (x y : ℕ) → Apart x y → (j : ℕ) → (bit x j && bit y j) ≡ false
apart_bits x y a j = sym (bit_and_lem x y j) ∙ ap (λ (n : ℕ). bit n j) a ∙ bit_zero j

or_digit : (x y : ℕ) → bit_or x y % 2 ≡ max (x % 2) (y % 2)
or_digit x y = omega (arith, or_step x y)

apart_of_or : (x y z : ℕ) → Apart x (bit_or y z) → Apart x y
apart_of_or x =
    bin_ind (λ (n : ℕ). (y z : ℕ) → Apart n (bit_or y z) → Apart n y) (λ y z a. refl)
    (λ n ih y z a.
    let half : Apart (n / 2) (bit_or (y / 2) (z / 2)) = rw (or_shr y z 1) at (apart_half n (bit_or y z) a) in
    halves_apart n y (ih (y / 2) (z / 2) half) (omega (arith, apart_digit n (bit_or y z) a, or_digit y z))) x

pub apart_past : (x y n : ℕ) → Apart x y → Apart (x / 2 ^ n) (y / 2 ^ n)
apart_past x y n a = sym (and_shr x y n) ∙ ap (λ (w : ℕ). w / 2 ^ n) a ∙ zero-div (2 ^ n)

-- ---- digit by digit

not_one : (r : ℕ) → r < 2 → not (eqb r 1) ≡ true → r ≡ 0
not_one zero l e = refl
not_one (suc zero) l e = absurd (false≢true e)
not_one (suc (suc r)) l e = absurd (omega arith)

digits_suit : (b h x : ℕ) → b < 2 → h < 2 → x < 2 → cond (eqb x 1) (not (eqb h 1)) (not (eqb b 1)) ≡ true → (b ≤ x) × (x + h ≤ 1)
digits_suit b h zero p q r e = (omega (arith, not_one b p e), omega arith)
digits_suit b h (suc zero) p q r e = (omega arith, omega (arith, not_one h q e))
digits_suit b h (suc (suc x)) p q r e = absurd (omega arith)

next_suits : (b h x a : ℕ) → suits (b / 2) (h / 2) (x / 2) a ≡ suits b h x (1 + a)
unfolding suits
next_suits b h x a = rw (one-add a, bit_next b a, bit_next h a, bit_next x a)

module _ (b h x n : ℕ) (s : all_below (suits b h x) (suc n) ≡ true) where
  parted : (suits b h x 0 && all_below (λ a. suits b h x (1 + a)) n) ≡ true
  unfolding all_below
  parted = sym (all_below_joined (suits b h x) 1 n) ∙ ap (all_below (suits b h x)) (one-add n) ∙ s

  first_suits : (b % 2 ≤ x % 2) × (x % 2 + h % 2 ≤ 1)
  unfolding suits
  first_suits = digits_suit (b % 2) (h % 2) (x % 2) (mod-lt _ (lit< tt)) (mod-lt _ (lit< tt)) (mod-lt _ (lit< tt)) (rw (bit_first x, bit_first h, bit_first b) at (and_left (suits b h x 0) _ parted))

  others_suit : all_below (suits (b / 2) (h / 2) (x / 2)) n ≡ true
  others_suit = all_below_same (suits (b / 2) (h / 2) (x / 2)) (λ a. suits b h x (1 + a)) n (λ a l. next_suits b h x a) ∙ and_right (suits b h x 0) _ parted

-- masks in which something suits have no bit in common
pub suited_apart : (n b h x : ℕ) → b < 2 ^ n → h < 2 ^ n → all_below (suits b h x) n ≡ true → Apart b h
suited_apart zero b h x p q s = let e : b ≡ 0 = omega arith in rw e refl
suited_apart (suc n) b h x p q s =
    let d = first_suits b h x n s in
    let r : Apart (b / 2) (h / 2) = suited_apart n (b / 2) (h / 2) (x / 2) (omega (arith, pow-suc 2 n)) (omega (arith, pow-suc 2 n)) (others_suit b h x n s) in
    omega (arith, and_step b h)

-- ---- what is chosen is the body, with facts beside it that are in neither

all_suit : (b h y : Bool) → (b && h) ≡ false → (y && (b || h)) ≡ false → cond (y || b) (not h) (not b) ≡ true
all_suit true true y p q = absurd (false≢true (sym p))
all_suit true false true p q = refl
all_suit true false false p q = refl
all_suit false true true p q = absurd (false≢true (sym q))
all_suit false true false p q = refl
all_suit false false true p q = refl
all_suit false false false p q = refl

pub beside_chosen : (n b h y : ℕ) → Apart b h → Apart y (bit_or b h) → all_below (suits b h (y + b)) n ≡ true
unfolding suits
beside_chosen n b h y p q = rw (← (or_disjoint y b (apart_of_or y b h q))) (says_all_below (suits b h (bit_or y b)) n (λ a l. here a))
  where
    here : (a : ℕ) → suits b h (bit_or y b) a ≡ true
    here a = rw (bit_or_lem y b a) (all_suit (bit b a) (bit h a) (bit y a) (apart_bits b h p a) (rw (bit_or_lem b h a) at (apart_bits y (bit_or b h) q a)))

-- y is beside the body in x
pub record Beside (b h x : ℕ) : Type 0 where
  pub y : ℕ
  pub sum : y + b ≡ x
  pub apart : Apart y (bit_or b h)

pub chosen_beside : (n b h x : ℕ) → b < 2 ^ n → h < 2 ^ n → x < 2 ^ n → all_below (suits b h x) n ≡ true → Beside b h x
chosen_beside zero b h x p q r s = let e : b ≡ 0 = omega arith in record { y = 0; sum = omega arith; apart = refl }
chosen_beside (suc n) b h x p q r s =
    let d = first_suits b h x n s in
    let o = chosen_beside n (b / 2) (h / 2) (x / 2) (omega (arith, pow-suc 2 n)) (omega (arith, pow-suc 2 n)) (omega (arith, pow-suc 2 n)) (others_suit b h x n s) in
    joined o.y o.sum o.apart d.0 d.1
  where
    joined : (z : ℕ) → z + b / 2 ≡ x / 2 → Apart z (bit_or (b / 2) (h / 2)) → b % 2 ≤ x % 2 → x % 2 + h % 2 ≤ 1 → Beside b h x
    joined z e a u v =
        let y : ℕ = z * 2 + (x % 2 - b % 2) in
        let half : y / 2 ≡ z = omega arith in
        let rest : Apart (y / 2) (bit_or b h / 2) = ap₂ bit_and half (or_shr b h 1) ∙ a in
        record { y = y; sum = omega arith; apart = halves_apart y (bit_or b h) rest (omega (arith, or_digit b h)) }

-- ---- the next number apart from a mask

-- w is the first behind y that has no bit in common with the mask
pub record Next (mask y w : ℕ) : Type 0 where
  pub more : y < w
  pub apart : Apart w mask
  pub first : (z : ℕ) → Apart z mask → y < z → w ≤ z

module _ (n mask : ℕ) (h : mask < 2 ^ suc n) where
  turned_half : (2 ^ suc n - 1 - mask) / 2 ≡ 2 ^ n - 1 - mask / 2
  turned_half = omega (arith, pow-suc 2 n)

  turned_digit : (2 ^ suc n - 1 - mask) % 2 ≡ 1 - mask % 2
  turned_digit = omega (arith, pow-suc 2 n)

  mask_half : mask / 2 < 2 ^ n
  mask_half = omega (arith, pow-suc 2 n)

  -- the lowest digit of a number with the bits of the mask taken out
  taken_out : (w v : ℕ) → bit_and (w / 2) (2 ^ n - 1 - mask / 2) ≡ v → bit_and w (2 ^ suc n - 1 - mask) ≡ v * 2 + min (w % 2) (1 - mask % 2)
  taken_out w v e = and_step w (2 ^ suc n - 1 - mask) ∙ ap₂ (λ (p q : ℕ). p * 2 + min (w % 2) q) (ap (bit_and (w / 2)) turned_half ∙ e) turned_digit

-- what is apart from a mask stands as it is in the sum with it
kept : (n mask y : ℕ) → Apart y mask → mask < 2 ^ n → y + mask < 2 ^ n → bit_and (y + mask) (2 ^ n - 1 - mask) ≡ y
kept zero mask y a p q = let e : y + mask ≡ 0 = omega arith in rw e (omega arith)
kept (suc n) mask y a p q =
    let d : y % 2 + mask % 2 ≤ 1 = apart_digit y mask a in
    let half : (y + mask) / 2 ≡ y / 2 + mask / 2 = omega arith in
    let rest : bit_and ((y + mask) / 2) (2 ^ n - 1 - mask / 2) ≡ y / 2 = rw half (kept n (mask / 2) (y / 2) (apart_half y mask a) (mask_half n mask p) (omega (arith, pow-suc 2 n))) in
    taken_out n mask p (y + mask) (y / 2) rest ∙ digit y mask d
  where
    digit : (y m : ℕ) → y % 2 + m % 2 ≤ 1 → y / 2 * 2 + min ((y + m) % 2) (1 - m % 2) ≡ y
    digit y m d = omega arith

-- where one of the lowest digits is one, it carries
next_carried : (mask y v : ℕ) → y % 2 + mask % 2 ≡ 1 → Next (mask / 2) (y / 2) v → Next mask y (v * 2)
next_carried mask y v e next =
    let half : v * 2 / 2 ≡ v = omega arith in
    record {
      more = omega (arith, next.more);
      apart = halves_apart (v * 2) mask (rw half next.apart) (omega arith);
      first = λ z a l. let d : z % 2 + mask % 2 ≤ 1 = apart_digit z mask a in omega (arith, next.first (z / 2) (apart_half z mask a) (omega arith));
    }

next_plain : (mask y : ℕ) → y % 2 + mask % 2 ≡ 0 → Apart y mask → Next mask y (y + 1)
next_plain mask y e a =
    let half : (y + 1) / 2 ≡ y / 2 = omega arith in
    record { more = omega arith; apart = halves_apart (y + 1) mask (rw half (apart_half y mask a)) (omega arith); first = λ z b l. omega arith }

pub next_apart : (n mask y : ℕ) → Apart y mask → mask < 2 ^ n → y + mask + 1 < 2 ^ n → Next mask y (bit_and (y + mask + 1) (2 ^ n - 1 - mask))
next_apart zero mask y a p q = absurd (omega arith)
next_apart (suc n) mask y a p q = elim (ℕ_discrete (y % 2 + mask % 2) 1) [ yes e ↦ carried e (next_apart n (mask / 2) (y / 2) (apart_half y mask a) (mask_half n mask p) (omega (arith, pow-suc 2 n))) | no d ↦ plain (omega (arith, apart_digit y mask a)) ]
  where
    carried : y % 2 + mask % 2 ≡ 1 → Next (mask / 2) (y / 2) (bit_and (y / 2 + mask / 2 + 1) (2 ^ n - 1 - mask / 2)) → Next mask y (bit_and (y + mask + 1) (2 ^ suc n - 1 - mask))
    carried e next =
        let v : ℕ = bit_and (y / 2 + mask / 2 + 1) (2 ^ n - 1 - mask / 2) in
        let half : (y + mask + 1) / 2 ≡ y / 2 + mask / 2 + 1 = omega arith in
        let last : (y + mask + 1) % 2 ≡ 0 = omega arith in
        let whole : bit_and (y + mask + 1) (2 ^ suc n - 1 - mask) ≡ v * 2 = taken_out n mask p (y + mask + 1) v (rw half refl) ∙ rw last (omega arith) in
        rw whole (next_carried mask y v e next)

    plain : y % 2 + mask % 2 ≡ 0 → Next mask y (bit_and (y + mask + 1) (2 ^ suc n - 1 - mask))
    plain e =
        let half : (y + mask + 1) / 2 ≡ y / 2 + mask / 2 = omega arith in
        let rest : bit_and ((y + mask + 1) / 2) (2 ^ n - 1 - mask / 2) ≡ y / 2 = rw half (kept n (mask / 2) (y / 2) (apart_half y mask a) (mask_half n mask p) (omega (arith, pow-suc 2 n))) in
        let whole : bit_and (y + mask + 1) (2 ^ suc n - 1 - mask) ≡ y + 1 = taken_out n mask p (y + mask + 1) (y / 2) rest ∙ omega arith in
        rw whole (next_plain mask y e a)
