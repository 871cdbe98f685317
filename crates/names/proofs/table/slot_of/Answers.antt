-- `table::slot_of` meets its contract. The invariant: the bytes from here on lead from this slot to the name's. Assumes nothing.
use mathlib.Core.Path.{refl, sym, ◌∙◌}
use native.Mathlib.Omega.{arith}
use Rattle.names.proofs.Slots.{slot_end, slot_on}
use Rattle.names.proofs.table.slot_of.Goals as goal

pub loop-byte-init : goal.loop-byte-init
loop-byte-init c = (refl, omega arith)

pub loop-byte-preserved : goal.loop-byte-preserved
loop-byte-preserved c = (c.loop-byte.invariant.0 ∙ slot_on _ _ _ c.loop-byte-test.true ∙ rw c.from.ensures, omega arith)

pub returns : goal.returns
returns c = sym (c.loop-byte.invariant.0 ∙ slot_end _ _ _ c.loop-byte-test.false)
