-- Laws of whether two names are the same.
use mathlib.Core.Path.{◌≡◌}
use mathlib.Core.Bool.{true, false}
use Prim.Native.Nat.{ℕ, ◌+◌, ◌≤◌, ◌<◌}
use lib.ListN.{length, drop, get_or, drop_of_length-le}
use borrow.Author.Tests.{eq-eqb}
use Rattle.texts.proofs.Prefix.{drop_at}
use Rattle.meaning.specs.Rules.{Bytes}
use Rattle.meaning.specs.Values.{same_bytes}
use Rattle.meaning.proofs.Booleans.{never_true}
use Rattle.meaning.proofs.Facts.{same_bytes_sound}

module _ (a b : Bytes) where
  -- a length or a byte tells names apart
  pub told_apart : (a ≡ b → ⊥) → same_bytes a b ≡ false
  told_apart h = never_true (same_bytes a b) (λ e. h (same_bytes_sound a b e))

  -- behind the last byte, and a byte before bytes that are known
  module _ (i : ℕ) where
    pub same_behind : length a ≤ i → length b ≤ i → same_bytes (drop i a) (drop i b) ≡ true
    unfolding same_bytes
    same_behind h k = rw (drop_of_length-le a h, drop_of_length-le b k)

    pub same_on : i < length a → i < length b → get_or a i 0 ≡ get_or b i 0 → same_bytes (drop i a) (drop i b) ≡ same_bytes (drop (i + 1) a) (drop (i + 1) b)
    unfolding same_bytes
    same_on h k e = rw (drop_at a i h, drop_at b i k, eq-eqb _ _ e)
