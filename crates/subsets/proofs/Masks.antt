-- A mask with one fact more: the code's `mask | (1u64 << fact)`, in which the shift is 2 ^ fact (`one_shifted` of derived_set).
use mathlib.Core.Path.{◌≡◌}
use mathlib.Core.Bool.{◌||◌}
use Prim.Native.Nat.{ℕ, ◌^◌, ◌<◌}
use native.Mathlib.Decide.{ℕ_discrete}
use borrow.Author.Tests.{eq-eqb, ne_eqb}
use lib.Dec.{eqb}
use lib.Bits.{bit_or, or_lt}
use lib.Pow.{pow-lt}
use Rattle.derived_set.specs.Members.{bit}
use Rattle.derived_set.proofs.Bits.{bit_here, bit_other}

-- it has that fact, and those that it had
pub mask_more : (m a j : ℕ) → bit (bit_or m (2 ^ a)) j ≡ (eqb j a || bit m j)
mask_more m a j = elim (ℕ_discrete j a) [ yes e ↦ rw (eq-eqb j a e, e) (bit_here m a) | no n ↦ rw (ne_eqb j a n) (bit_other m a j n) ]

pub mask_small : (m a : ℕ) → m < 2 ^ 20 → a < 20 → bit_or m (2 ^ a) < 2 ^ 20
mask_small m a h k = or_lt 20 m (2 ^ a) h (pow-lt k)
