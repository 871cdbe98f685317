-- Laws of `prefix_len`, over the test: what a loop over a prefix does in a turn, where it stops, and at the end.
use Prim.Native.Nat.{ℕ, suc, ◌+◌, ◌<◌, ◌≤◌}
use native.Mathlib.Nat.{add-zero}
use native.Mathlib.Numerals.{add-one}
use native.Mathlib.Omega.{arith}
use mathlib.Core.Path.{◌≡◌, refl}
use mathlib.Core.Bool.{Bool, true, false}
use mathlib.Core.List.{List, [], ◌∷◌}
use lib.ListN.{length, get_or, drop, drop_of_length-le, get_or-eq_default}
use lib.Dec.{ltb}
use lib.Seq.{drop-cons}
use borrow.Author.Tests.{ltb-true, ltb-false}
use Rattle.texts.specs.Prefix.{prefix_len}

-- the text from a place on: the byte there, and the text from the next place on
pub drop_at : (s : List ℕ) (i : ℕ) → i < length s → drop i s ≡ get_or s i 0 ∷ drop (i + 1) s
drop_at s i h = rw (add-one i, drop-cons s i 0 h)

-- past the end stands a 0
pub byte_inside : (s : List ℕ) (i : ℕ) → (get_or s i 0 ≡ 0 → ⊥) → i < length s
byte_inside s i h = go (ltb i (length s)) refl
  where
    go : (t : Bool) → ltb i (length s) ≡ t → i < length s
    go true e = ltb-true i (length s) e
    go false e = absurd (h (get_or-eq_default s 0 (ltb-false i (length s) e)))

module _ (p : ℕ → Bool) (s : List ℕ) (i : ℕ) where
  pub prefix_end : length s ≤ i → i + prefix_len p (drop i s) ≡ i
  unfolding prefix_len
  prefix_end h = rw (drop_of_length-le s h) (add-zero i)

  pub prefix_stop : i < length s → p (get_or s i 0) ≡ false → i + prefix_len p (drop i s) ≡ i
  unfolding prefix_len
  prefix_stop h e = rw (drop_at s i h, e) (add-zero i)

  pub prefix_on : i < length s → p (get_or s i 0) ≡ true → i + prefix_len p (drop i s) ≡ (i + 1) + prefix_len p (drop (i + 1) s)
  unfolding prefix_len
  prefix_on h e = rw (drop_at s i h, e) (omega arith)

pub prefix_nil : (p : ℕ → Bool) → prefix_len p [] ≡ 0
unfolding prefix_len
prefix_nil p = refl

module _ (p : ℕ → Bool) (b : ℕ) (rest : List ℕ) where
  pub prefix_more : p b ≡ true → prefix_len p (b ∷ rest) ≡ suc (prefix_len p rest)
  unfolding prefix_len
  prefix_more e = rw e

  pub prefix_none : p b ≡ false → prefix_len p (b ∷ rest) ≡ 0
  unfolding prefix_len
  prefix_none e = rw e

-- the bytes behind a prefix start with none that passes
pub prefix_rest : (p : ℕ → Bool) (s : List ℕ) → prefix_len p (drop (prefix_len p s) s) ≡ 0
unfolding prefix_len
prefix_rest p [] = refl
prefix_rest p (b ∷ rest) = go (p b) refl (prefix_rest p rest)
  where
    go : (t : Bool) → p b ≡ t → prefix_len p (drop (prefix_len p rest) rest) ≡ 0 → prefix_len p (drop (prefix_len p (b ∷ rest)) (b ∷ rest)) ≡ 0
    go true e ih = rw e ih
    go false e ih = rw (prefix_none p b rest e) (prefix_none p b rest e)

-- a test that passes more has the longer prefix
pub prefix_wider : (p q : ℕ → Bool) → ((b : ℕ) → p b ≡ true → q b ≡ true) → (s : List ℕ) → prefix_len p s ≤ prefix_len q s
unfolding prefix_len
prefix_wider p q wider [] = omega arith
prefix_wider p q wider (b ∷ rest) = go (p b) refl (prefix_wider p q wider rest)
  where
    go : (t : Bool) → p b ≡ t → prefix_len p rest ≤ prefix_len q rest → prefix_len p (b ∷ rest) ≤ prefix_len q (b ∷ rest)
    go true e ih = rw (e, wider b e) (omega arith)
    go false e ih = rw e (omega arith)
