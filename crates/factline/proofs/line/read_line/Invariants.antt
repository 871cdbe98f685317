-- `line::read_line` meets its contract. The invariant: the facts before this one have their rows and their places, and what lies ahead of
-- them is what lies ahead of the line. The measure is how many more there may be. Assumes nothing.
use Prim.Native.Nat.{◌-◌}
use Rattle.factline.proofs.LineLaws.{Going}
use Rattle.factline.proofs.line.read_line.Given as goal

abbrev pub invariant-loop-fact : goal.invariant-loop-fact
invariant-loop-fact l = Going l.program l.output l.text l.line.start l.initial.names l.initial.facts l.initial.starts l.initial.lengths l.at l.count l.names l.variables l.facts l.starts l.lengths

abbrev pub decreases-loop-fact : goal.decreases-loop-fact
decreases-loop-fact l = 1_025 - l.count
