-- How far from 0 numbers lie: codes, and what an operation makes of two.
use mathlib.Core.Path.{◌≡◌, refl}
use mathlib.Core.Bool.{Bool, true, false, cond}
use mathlib.Core.Option.{some}
use Prim.Native.Nat.{ℕ, zero, suc, ◌+◌, ◌-◌, ◌*◌, ◌≤◌}
use native.Mathlib.Decide.{dec_lt}
use native.Mathlib.Nat.{le_trans, mul-le-mul}
use native.Mathlib.Omega.{arith}
use borrow.Author.Tests.{le-leb, lt-ltb, le-ltb, ne_eqb}
use lib.Dec.{leb}
use lib.IntN.{ℤ, pos, negsuc, neg_ℤ, sub_ℕ, ◌+ℤ◌, ◌*ℤ◌}
use Rattle.meaning.specs.Domain.{Operation, plus, minus, times}
use Rattle.meaning.specs.Values.{number, operate_numbers, in_range}
use Rattle.meaning.proofs.Booleans.{and_both, none_some, some_inj}
use Rattle.codes.specs.Codes.{zero_code, beyond, is_number_code, number_code, number_of}
use Rattle.codes.specs.Arithmetic.{kept, applied, result}
use Rattle.codes.specs.Domains.{code_in_range}
use Rattle.codes.proofs.Numbers.{number_least, number_greatest, code_is_number}
use Rattle.magnitudes.specs.Sizes.{size, greatest}

abbrev far : ℤ → ℕ
far (pos n) = n
far (negsuc n) = suc n

-- ---- sums, differences, products

far_apart : (a b n : ℕ) → b ≤ n + a → a ≤ n + b → far (sub_ℕ a b) ≤ n
far_apart a b n h k = elim (dec_lt a b) [ yes l ↦ rw (lt-ltb a b l) (omega arith) | no l ↦ rw (le-ltb a b (omega arith)) (omega arith) ]

far_sum : (x y : ℤ) → far (x +ℤ y) ≤ far x + far y
far_sum (pos a) (pos b) = omega arith
far_sum (pos a) (negsuc b) = far_apart a (suc b) (a + suc b) (omega arith) (omega arith)
far_sum (negsuc a) (pos b) = far_apart b (suc a) (suc a + b) (omega arith) (omega arith)
far_sum (negsuc a) (negsuc b) = omega arith

far_opposite : (x : ℤ) → far (neg_ℤ x) ≤ far x
far_opposite (pos zero) = omega arith
far_opposite (pos (suc n)) = omega arith
far_opposite (negsuc n) = omega arith

far_minus : (n : ℕ) → far (neg_ℤ (pos n)) ≤ n
far_minus zero = omega arith
far_minus (suc n) = omega arith

far_product : (x y : ℤ) → far (x *ℤ y) ≤ far x * far y
far_product (pos a) (pos b) = omega arith
far_product (pos a) (negsuc b) = far_minus (a * suc b)
far_product (negsuc a) (pos b) = far_minus (suc a * b)
far_product (negsuc a) (negsuc b) = omega arith

-- how far an operation can reach
abbrev pub reached : Operation → ℕ → ℕ → ℕ
reached plus m n = m + n
reached minus m n = m + n
reached times m n = m * n

far_operated : (o : Operation) (x y : ℤ) (m n : ℕ) → far x ≤ m → far y ≤ n → far (operate_numbers o x y) ≤ reached o m n
unfolding operate_numbers
far_operated plus x y m n h k = le_trans (far_sum x y) (omega arith)
far_operated minus x y m n h k = le_trans (far_sum x (neg_ℤ y)) (omega (arith, far_opposite y))
far_operated times x y m n h k = le_trans (far_product x y) (mul-le-mul h k)

-- ---- codes

pub size_small : (c : ℕ) → size c ≤ greatest
unfolding size
size_small c = go (is_number_code c) refl
  where
    go : (b : Bool) → is_number_code c ≡ b → cond b (c - zero_code + (zero_code - c)) 0 ≤ greatest
    go true e = omega (arith, number_least c e, number_greatest c e)
    go false e = omega arith

size_far : (c : ℕ) → is_number_code c ≡ true → far (number_of c) ≡ size c
unfolding size number_of
size_far c e = elim (dec_lt c zero_code) [ yes l ↦ rw (e, lt-ltb c zero_code l) (omega arith) | no l ↦ rw (e, le-ltb c zero_code (omega arith)) (omega arith) ]

far_in_range : (z : ℤ) → far z ≤ greatest → in_range (number z) ≡ true
unfolding in_range
far_in_range (pos n) h = le-leb n 1_000_000_000 h
far_in_range (negsuc n) h = and_both (leb n 999_999_999) true (le-leb n 999_999_999 (omega arith)) refl

code_size : (z : ℤ) → far z ≤ greatest → size (number_code z) ≡ far z
unfolding size number_code
code_size (pos n) h = let e : is_number_code (number_code (pos n)) ≡ true = code_is_number (pos n) (far_in_range (pos n) h) in rw e (omega arith)
code_size (negsuc n) h = let e : is_number_code (number_code (negsuc n)) ≡ true = code_is_number (negsuc n) (far_in_range (negsuc n) h) in rw e (omega arith)

-- ---- the result of an operation

number_fits : (c : ℕ) → is_number_code c ≡ true → code_in_range c ≡ true
unfolding code_in_range
number_fits c h = rw (ne_eqb c beyond (λ e. omega (arith, number_greatest c h)))

kept_small : (z : ℤ) (n : ℕ) → far z ≤ n → n ≤ greatest → (c : ℕ) → result (kept z) ≡ some c → (code_in_range c ≡ true) × (size c ≤ n)
unfolding kept result
kept_small z n h k c e =
    let r : in_range (number z) ≡ true = far_in_range z (omega arith) in
    let is : number_code z ≡ c = some_inj (rw r at e) in
    let s : size (number_code z) ≡ far z = code_size z (omega arith) in
    (rw (← is) (number_fits (number_code z) (code_is_number z r)), rw (← is, s) h)

pub applied_small : (o : Operation) (a b m n : ℕ) → size a ≤ m → size b ≤ n → reached o m n ≤ greatest → (c : ℕ) → result (applied o a b) ≡ some c → (code_in_range c ≡ true) × (size c ≤ reached o m n)
unfolding applied result
applied_small o a b m n h k g c e = go (is_number_code a) (is_number_code b) refl refl
  where
    go : (s t : Bool) → is_number_code a ≡ s → is_number_code b ≡ t → (code_in_range c ≡ true) × (size c ≤ reached o m n)
    go false t p q = absurd (none_some (rw p at e))
    go true false p q = absurd (none_some (rw (p, q) at e))
    go true true p q =
        let x : far (number_of a) ≤ m = rw (size_far a p) h in
        let y : far (number_of b) ≤ n = rw (size_far b q) k in
        kept_small (operate_numbers o (number_of a) (number_of b)) (reached o m n) (far_operated o (number_of a) (number_of b) m n x y) g c (rw (p, q) at e)
