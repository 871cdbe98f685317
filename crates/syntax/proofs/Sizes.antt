-- The number of refusal by the sizes that are passed.
use mathlib.Core.Path.{◌≡◌, refl, ◌∙◌}
use mathlib.Core.Bool.{Bool, true, false, cond, ◌||◌}
use Prim.Native.Nat.{ℕ, ◌≤◌, ◌<◌}
use native.Mathlib.Omega.{arith}
use lib.Dec.{leb, ltb}
use borrow.Author.Tests.{leb-true, leb-false, lt-ltb, le-ltb}
use Rattle.lexis.specs.Number.{capped}
use Rattle.reading.specs.Reading.{Marked}
use Rattle.grammar.specs.Tokens.{Token}
use Rattle.grammar.specs.Spelling.{Mark}
use Rattle.grammar.specs.Variables.{Variables as Names}
use Rattle.grammar.specs.Sizes.{greatest_number, most_bytes, too_big, too_long, too_many, too_many_variables, refusal, fault}

module _ (ground : Bool) (vs : Names) (u : Token) (m : Mark) where
  abbrev marked : Marked Token Mark
  marked = record { token = u; mark = m }

  pub fault_none : too_big u ≡ false → too_long u ≡ false → too_many ground m ≡ false → too_many_variables vs u ≡ false → fault ground vs marked ≡ 0
  unfolding fault refusal
  fault_none a b c d = rw (a, b, c, d)

  pub fault_big : too_big u ≡ true → fault ground vs marked ≡ 3
  unfolding fault refusal
  fault_big a = rw a (go (too_long u || too_many ground m || too_many_variables vs u))
    where
      go : (b : Bool) → refusal true b ≡ 3
      go true = refl
      go false = refl

  pub fault_long : too_big u ≡ false → too_long u ≡ true → fault ground vs marked ≡ 4
  unfolding fault refusal
  fault_long a b = rw (a, b)

  pub fault_many : too_big u ≡ false → too_many ground m ≡ true → fault ground vs marked ≡ 4
  unfolding fault refusal
  fault_many a c = rw (a, c) (go (too_long u))
    where
      go : (b : Bool) → refusal false (b || true || too_many_variables vs u) ≡ 4
      go true = refl
      go false = refl

  pub fault_variables : too_big u ≡ false → too_many_variables vs u ≡ true → fault ground vs marked ≡ 4
  unfolding fault refusal
  fault_variables a d = rw (a, d) (go (too_long u) (too_many ground m))
    where
      go : (b c : Bool) → refusal false (b || c || true) ≡ 4
      go true true = refl
      go true false = refl
      go false true = refl
      go false false = refl

-- a word that has too many bytes, or is one too many
pub word_fault : (ground : Bool) (vs : Names) (u : Token) (m : Mark) (len : ℕ) (over : Bool) → too_big u ≡ false → too_long u ≡ ltb most_bytes len → too_many ground m ≡ over → (over ≡ false → most_bytes < len) → fault ground vs (record { token = u; mark = m }) ≡ 4
word_fault ground vs u m len true small long many l = fault_many ground vs u m small many
word_fault ground vs u m len false small long many l = fault_long ground vs u m small (long ∙ lt-ltb most_bytes len (l refl))

-- ---- numbers

-- a number is over its size as its capped value is
pub capped_small : (n : ℕ) → leb (capped n) greatest_number ≡ true → (capped n ≡ n) × (ltb greatest_number n ≡ false)
unfolding capped
capped_small n h = go (leb n 1_000_000_000) refl h
  where
    go : (b : Bool) → leb n 1_000_000_000 ≡ b → leb (cond b n 1_000_000_001) 1_000_000_000 ≡ true → (cond (leb n 1_000_000_000) n 1_000_000_001 ≡ n) × (ltb 1_000_000_000 n ≡ false)
    go true e q = (rw e, le-ltb 1_000_000_000 n (leb-true n 1_000_000_000 e))
    go false e q = let z : 1_000_000_001 ≤ 1_000_000_000 = leb-true 1_000_000_001 1_000_000_000 q in absurd (omega arith)

pub capped_big : (n : ℕ) → leb (capped n) greatest_number ≡ false → ltb greatest_number n ≡ true
unfolding capped
capped_big n h = go (leb n 1_000_000_000) refl h
  where
    go : (b : Bool) → leb n 1_000_000_000 ≡ b → leb (cond b n 1_000_000_001) 1_000_000_000 ≡ false → ltb 1_000_000_000 n ≡ true
    go true e q = let z : 1_000_000_000 < n = leb-false n 1_000_000_000 q in lt-ltb 1_000_000_000 n z
    go false e q = lt-ltb 1_000_000_000 n (leb-false n 1_000_000_000 e)
