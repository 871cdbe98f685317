-- `heads::heads_at` meets its contract. The invariant: the rows so far stand for the heads that have been read as far as here.
-- The measure is how many more there may be. Assumes nothing.
use Prim.Native.Nat.{◌-◌}
use Rattle.clauses.proofs.HeadLaws.{Going}
use Rattle.clauses.proofs.heads.heads_at.Given as goal

abbrev pub invariant-loop-read : goal.invariant-loop-read
invariant-loop-read l = Going l.program l.output l.initial.names l.initial.variables l.initial.literals l.cursor l.start.number l.names l.variables l.literals l.here l.first l.count

abbrev pub decreases-loop-read : goal.decreases-loop-read
decreases-loop-read l = 5 - l.count
