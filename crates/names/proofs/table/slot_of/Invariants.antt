-- `table::slot_of` meets its contract. The invariant: the bytes from here on lead from this slot to the name's. Assumes nothing.
use Prim.Native.Nat.{◌<◌}
use mathlib.Core.Path.{◌≡◌}
use lib.ListN.{drop}
use Rattle.names.specs.Table.{slots, slot_from}
use Rattle.names.proofs.table.slot_of.Given as goal

abbrev pub invariant-loop-byte : goal.invariant-loop-byte
invariant-loop-byte l = (slot_from 0 l.name ≡ slot_from l.slot (drop l.byte-index l.name)) × (l.slot < slots)
