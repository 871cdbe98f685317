-- `row::put_row` meets its contract. The invariant: the numbers before this one are stored. Assumes nothing.
use mathlib.Core.Path.{◌≡◌}
use lib.Seq.{paste}
use Rattle.tables.proofs.row.put_row.Given as goal

abbrev pub invariant-loop-i : goal.invariant-loop-i
invariant-loop-i l = l.table ≡ paste l.initial.table l.at l.row l.i
