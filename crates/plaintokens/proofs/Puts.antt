-- Laws of `Put`: nothing, one part behind the other, and the room that each needs.
use mathlib.Core.Path.{◌≡◌, refl, sym as inv, ◌∙◌}
use mathlib.Core.List.{[], ◌∷◌, ◌++◌}
use Prim.Native.Nat.{ℕ, suc, ◌+◌, ◌≤◌, ◌<◌}
use native.Mathlib.Nat.{add-zero}
use native.Mathlib.Numerals.{add-one}
use native.Mathlib.Omega.{arith}
use lib.ListN.{length, take, get_or, set, length-append}
use lib.Seq.{sets, length-sets, take_all, take-suc, length-take-le}
use Rattle.meaning.specs.Rules.{Bytes}
use Rattle.plaintokens.specs.Put.{Room, Put}

pub put_none : (buffer : Bytes) (at : ℕ) → Put buffer at [] at buffer
put_none buffer at = record { next = inv (add-zero at); laid = refl }

-- the same bytes
pub put_as : {l m : Bytes} {at n : ℕ} {a b : Bytes} → a ≡ b → Put l at b n m → Put l at a n m
put_as e p = rw e p

pub room_as : (at : ℕ) {a b : Bytes} → a ≡ b → Room at a → Room at b
room_as at e h = rw e at h

sets_append : (a b l : Bytes) (at : ℕ) → sets l at (a ++ b) ≡ sets (sets l at a) (at + length a) b
sets_append [] b l at = rw (add-zero at)
sets_append (x ∷ a) b l at = let e : suc at + length a ≡ at + suc (length a) = omega arith in sets_append a b (set l at x) (suc at) ∙ rw e

module _ {l m r : Bytes} {at n k : ℕ} {a b : Bytes} where
  pub put_then : Put l at a n m → Put m n b k r → Put l at (a ++ b) k r
  put_then p q = record { next = rw (q.next, p.next, length-append a b) (omega arith); laid = q.laid ∙ rw (p.laid, p.next) (inv (sets_append a b l at)) }

pub put_length : {l m : Bytes} {at n : ℕ} {a : Bytes} → Put l at a n m → length m ≡ length l
put_length {l} {m} {at} {n} {a} p = rw p.laid (length-sets l at a)

-- the room of the first part, and of the rest behind it
pub room_first : (at : ℕ) (a b : Bytes) → Room at (a ++ b) → Room at a
room_first at a b h = omega (arith, length-append a b)

pub room_rest : {l m : Bytes} {at n : ℕ} {a : Bytes} (b : Bytes) → Put l at a n m → Room at (a ++ b) → Room n b
room_rest {l} {m} {at} {n} {a} b p h = omega (arith, length-append a b, p.next)

-- ---- bytes one after the other

module _ {l m : Bytes} {at n i : ℕ} (bytes : Bytes) (p : Put l at (take i bytes) n m) where
  pub byte_room : Room at bytes → i < length bytes → Room n (get_or bytes i 0 ∷ [])
  byte_room h g = let e : length (take i bytes) ≡ i = length-take-le i bytes (omega arith) in omega (arith, p.next)

  pub byte_on : {r : Bytes} {k : ℕ} → i < length bytes → Put m n (get_or bytes i 0 ∷ []) k r → Put l at (take (i + 1) bytes) k r
  byte_on g q = rw (add-one i, take-suc bytes i 0 g) (put_then p q)

  pub byte_end : length bytes ≤ i → Put l at bytes n m
  byte_end g = rw (take_all i bytes g) at p
