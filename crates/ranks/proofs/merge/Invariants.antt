-- `merge` meets its contract. The invariant: i numbers of the left and j of the right are merged. The measure is what is left. Assumes nothing.
use Prim.Native.Nat.{◌+◌, ◌-◌}
use mathlib.Core.Path.{◌≡◌}
use lib.ListN.{length}
use Rattle.names.specs.Table.{names_of}
use Rattle.ranks.proofs.Merging.{Merging}
use Rattle.ranks.proofs.merge.Given as goal

abbrev pub invariant-loop-i : goal.invariant-loop-i
invariant-loop-i l = (length l.merged ≡ length l.initial.merged) × Merging (names_of l.program l.output l.names) (l.i + l.j) l.left l.i l.right l.j l.merged

abbrev pub decreases-loop-i : goal.decreases-loop-i
decreases-loop-i l = length l.merged - (l.i + l.j)
