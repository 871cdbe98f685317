-- `bytes_of` meets its contract: past the last number there are none, else they are those of the name's span. Assumes nothing.
use mathlib.Core.Path.{sym, ◌∙◌}
use native.Mathlib.Omega.{arith}
use Rattle.names.proofs.Firsts.{get_d_first, get_d_past}
use Rattle.names.proofs.Standing.{name_read, nothing_at}
use Rattle.names.proofs.bytes_of.Goals as goal

pub returns-then-count-number : goal.returns-then-count-number
returns-then-count-number c = c.bytes_at.ensures ∙ rw c.span_from.ensures (nothing_at _ _ 0) ∙ sym (get_d_past _ _ _ (let e = c.count.ensures in let h = c.if-count-number.true in omega arith))

pub span-requires : goal.span-requires
span-requires c = let r = c.requires.room in let e = c.count.ensures in let h = c.if-count-number.false in omega arith

pub returns : goal.returns
returns c = name_read _ _ _ _ _ _ c.span.ensures c.bytes_at-2.ensures ∙ sym (get_d_first _ _ _ (let e = c.count.ensures in let h = c.if-count-number.false in omega arith))
