-- `body::body_at` meets its contract. The invariant: the rows so far stand for the literals that have been read as far as here.
-- The measure is how many more there may be. Assumes nothing.
use Prim.Native.Nat.{◌-◌}
use Rattle.clauses.proofs.BodyLaws.{Going}
use Rattle.clauses.proofs.body.body_at.Given as goal

abbrev pub invariant-loop-read : goal.invariant-loop-read
invariant-loop-read l = Going l.program l.output l.initial.names l.initial.variables l.initial.literals l.cursor l.first l.names l.variables l.literals l.at l.met l.count

abbrev pub decreases-loop-read : goal.decreases-loop-read
decreases-loop-read l = 17 - l.count
