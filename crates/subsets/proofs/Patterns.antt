-- The pattern of a word, cut to what suits a matching, fact by fact.
use mathlib.Core.Path.{◌≡◌, refl, sym, ap, ap₂, ◌∙◌}
use mathlib.Core.Bool.{Bool, true, false, not, cond, ◌&&◌, beq, and-true}
use Prim.Native.Nat.{ℕ, suc, ◌-◌, ◌^◌, ◌<◌}
use lib.Bits.{bit_and}
use Rattle.meaning.proofs.Booleans.{beq_equal}
use Rattle.derived_set.specs.Members.{bit}
use Rattle.derived_set.proofs.Bits.{bit_zero}
use Rattle.subsets.specs.Table.{all_below, suits}
use Rattle.subsets.specs.Words.{Column, Leaves}
use Rattle.subsets.proofs.Bits.{bit_and_lem, bit_not}
use Rattle.subsets.proofs.Refuting.{all_below_says}

module _ (left having fact b h : ℕ) (c : Column fact having) (l : Leaves fact b h left) where
  -- a fact that is to be kept and is not to be
  pub cut_all : bit b fact ≡ true → bit h fact ≡ true → Leaves (suc fact) b h 0
  unfolding all_below suits
  cut_all p q j k = bit_zero j ∙ sym (rw (p, q) (never (all_below (suits b h j) fact) (bit j fact)))
    where
      never : (a k : Bool) → (a && cond k false false) ≡ false
      never true true = refl
      never true false = refl
      never false k = refl

  pub cut_having : bit b fact ≡ true → bit h fact ≡ false → Leaves (suc fact) b h (bit_and left having)
  unfolding all_below suits
  cut_having p q j k = bit_and_lem left having j ∙ ap₂ ◌&&◌ (l j k) (c j k ∙ sym (rw (p, q) (same (bit j fact))))
    where
      same : (k : Bool) → cond k true false ≡ k
      same true = refl
      same false = refl

  pub cut_lacking : having < 2 ^ 64 → bit b fact ≡ false → bit h fact ≡ true → Leaves (suc fact) b h (bit_and left (2 ^ 64 - 1 - having))
  unfolding all_below suits
  cut_lacking fits p q j k = bit_and_lem left (2 ^ 64 - 1 - having) j ∙ ap₂ ◌&&◌ (l j k) (bit_not 64 having j fits k ∙ ap not (c j k) ∙ sym (rw (p, q) (turned (bit j fact))))
    where
      turned : (k : Bool) → cond k false true ≡ not k
      turned true = refl
      turned false = refl

  pub cut_none : bit b fact ≡ false → bit h fact ≡ false → Leaves (suc fact) b h left
  unfolding all_below suits
  cut_none p q j k = l j k ∙ sym (rw (p, q) (ap (λ (t : Bool). all_below (suits b h j) fact && t) (always (bit j fact)) ∙ and-true (all_below (suits b h j) fact)))
    where
      always : (k : Bool) → cond k true true ≡ true
      always true = refl
      always false = refl

-- ---- by computing

-- the word that has the numbers with a fact
pub column_is : (fact word : ℕ) → all_below (λ j. beq (bit word j) (bit j fact)) 64 ≡ true → Column fact word
column_is fact word e j l = beq_equal (bit word j) (bit j fact) (all_below_says (λ j. beq (bit word j) (bit j fact)) 64 e j l)

-- a word of ones
pub full_bits : (j : ℕ) → j < 64 → bit (2 ^ 64 - 1) j ≡ true
unfolding all_below bit
full_bits = all_below_says (bit (2 ^ 64 - 1)) 64 refl

pub full_leaves : (b h : ℕ) → Leaves 0 b h (2 ^ 64 - 1)
unfolding all_below
full_leaves b h = full_bits
