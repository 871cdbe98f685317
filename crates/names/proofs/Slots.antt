-- Laws of `slot_from`: what a loop over a name's bytes does in a turn, and at the end.
use mathlib.Core.Path.{◌≡◌}
use mathlib.Core.List.{[], ◌∷◌}
use Prim.Native.Nat.{ℕ, ◌+◌, ◌*◌, ◌%◌, ◌≤◌, ◌<◌}
use native.Mathlib.Omega.{arith}
use lib.ListN.{length, drop, get_or, drop_of_length-le}
use Rattle.texts.proofs.Prefix.{drop_at}
use Rattle.meaning.specs.Rules.{Bytes}
use Rattle.names.specs.Table.{slots, factor, slot_from, slot_of}

module _ (name : Bytes) (i slot : ℕ) where
  pub slot_end : length name ≤ i → slot_from slot (drop i name) ≡ slot
  unfolding slot_from
  slot_end h = rw (drop_of_length-le name h)

  pub slot_on : i < length name → slot_from slot (drop i name) ≡ slot_from ((slot * factor + get_or name i 0) % slots) (drop (i + 1) name)
  unfolding slot_from
  slot_on h = rw (drop_at name i h)

slot_below : (slot : ℕ) (name : Bytes) → slot < slots → slot_from slot name < slots
unfolding slot_from
slot_below slot [] h = h
slot_below slot (b ∷ rest) h = slot_below ((slot * factor + b) % slots) rest (omega arith)

pub slot_inside : (slot : ℕ) (name : Bytes) → slot ≡ slot_of name → slot < slots
slot_inside slot name e = let k = slot_below 0 name (omega arith) in omega arith
