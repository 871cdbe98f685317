-- What a matching refutes, fact by fact; and by the facts that choose a bit of a word and those that choose the word.
use mathlib.Core.Path.{◌≡◌, refl, sym, ap, ap₂, ◌∙◌}
use mathlib.Core.Bool.{Bool, true, false, not, cond, ◌&&◌, and-true, and_assoc}
use Prim.Native.Nat.{ℕ, zero, suc, ◌+◌, ◌/◌, ◌%◌, ◌<◌}
use native.Mathlib.Nat.{add-zero, add-suc}
use native.Mathlib.Decide.{ℕ_discrete}
use native.Mathlib.Omega.{arith}
use Rattle.meaning.proofs.Booleans.{and_left, and_right, and_both}
use Rattle.derived_set.specs.Members.{bit}
use Rattle.subsets.specs.Table.{all_below, suits, refutes}
use Rattle.subsets.specs.Words.{bit_facts, chosen}
use Rattle.subsets.proofs.Bits.{bit_past, bit_low}

-- ---- a test at every number below another

pub all_below_says : (f : ℕ → Bool) (n : ℕ) → all_below f n ≡ true → (a : ℕ) → a < n → f a ≡ true
unfolding all_below
all_below_says f zero h a l = absurd (omega arith)
all_below_says f (suc n) h a l = elim (ℕ_discrete a n) [ yes e ↦ rw e (and_right (all_below f n) (f n) h) | no d ↦ all_below_says f n (and_left (all_below f n) (f n) h) a (omega arith) ]

pub says_all_below : (f : ℕ → Bool) (n : ℕ) → ((a : ℕ) → a < n → f a ≡ true) → all_below f n ≡ true
unfolding all_below
says_all_below f zero h = refl
says_all_below f (suc n) h = and_both (all_below f n) (f n) (says_all_below f n (λ a l. h a (omega arith))) (h n (omega arith))

pub all_below_same : (f g : ℕ → Bool) (n : ℕ) → ((a : ℕ) → a < n → f a ≡ g a) → all_below f n ≡ all_below g n
unfolding all_below
all_below_same f g zero h = refl
all_below_same f g (suc n) h = ap₂ ◌&&◌ (all_below_same f g n (λ a l. h a (omega arith))) (h n (omega arith))

pub all_below_joined : (f : ℕ → Bool) (n m : ℕ) → all_below f (n + m) ≡ (all_below f n && all_below (λ a. f (n + a)) m)
unfolding all_below
all_below_joined f n zero = ap (all_below f) (add-zero n) ∙ sym (and-true (all_below f n))
all_below_joined f n (suc m) =
    ap (all_below f) (add-suc n m) ∙ ap (λ (b : Bool). b && f (n + m)) (all_below_joined f n m) ∙ and_assoc (all_below f n) (all_below (λ a. f (n + a)) m) (f (n + m))

-- ---- fact by fact

asked : (body head kept : Bool) → cond kept (not head) (not body) ≡ true → (body ≡ true → kept ≡ true) × (head ≡ true → kept ≡ false)
asked body true true h = (λ e. refl, λ e. sym h)
asked body false true h = (λ e. refl, λ e. sym e)
asked true head false h = (λ e. h, λ e. refl)
asked false head false h = (λ e. e, λ e. refl)

given : (body head kept : Bool) → (body ≡ true → kept ≡ true) → (head ≡ true → kept ≡ false) → cond kept (not head) (not body) ≡ true
given body true true p q = sym (q refl)
given body false true p q = refl
given true head false p q = p refl
given false head false p q = refl

pub suits_says : (b h J a : ℕ) → suits b h J a ≡ true → (bit b a ≡ true → bit J a ≡ true) × (bit h a ≡ true → bit J a ≡ false)
unfolding suits
suits_says b h J a s = asked (bit b a) (bit h a) (bit J a) s

pub says_suits : (b h J a : ℕ) → (bit b a ≡ true → bit J a ≡ true) → (bit h a ≡ true → bit J a ≡ false) → suits b h J a ≡ true
unfolding suits
says_suits b h J a p q = given (bit b a) (bit h a) (bit J a) p q

-- J has each fact of the body and none of the heads
pub refutes_says : (b h J : ℕ) → refutes b h J ≡ true → ((a : ℕ) → a < 20 → bit b a ≡ true → bit J a ≡ true) × ((a : ℕ) → a < 20 → bit h a ≡ true → bit J a ≡ false)
unfolding refutes
refutes_says b h J r = (λ a l. (suits_says b h J a (all_below_says (suits b h J) 20 r a l)).0, λ a l. (suits_says b h J a (all_below_says (suits b h J) 20 r a l)).1)

pub says_refutes : (b h J : ℕ) → ((a : ℕ) → a < 20 → bit b a ≡ true → bit J a ≡ true) → ((a : ℕ) → a < 20 → bit h a ≡ true → bit J a ≡ false) → refutes b h J ≡ true
unfolding refutes
says_refutes b h J p q = says_all_below (suits b h J) 20 (λ a l. says_suits b h J a (p a l) (q a l))

-- ---- by bit and by word

module _ (b h J : ℕ) where
  low_suits : (a : ℕ) → a < 6 → suits b h J a ≡ suits b h (J % 64) a
  unfolding suits
  low_suits a l = rw (bit_low 6 J a l)

  high_suits : (a : ℕ) → suits b h J (6 + a) ≡ suits (b / 64) (h / 64) (J / 64) a
  unfolding suits
  high_suits a = rw (bit_past b 6 a, bit_past h 6 a, bit_past J 6 a)

  pub refutes_parts : refutes b h J ≡ (all_below (suits b h (J % 64)) bit_facts && chosen (b / 64) (h / 64) (J / 64))
  unfolding refutes chosen
  refutes_parts = all_below_joined (suits b h J) 6 14 ∙ ap₂ ◌&&◌ (all_below_same _ _ 6 low_suits) (all_below_same _ _ 14 (λ a l. high_suits a))
