-- `largest` meets its contract. The invariant: the facts before k have no larger number. Assumes nothing.
use Rattle.magnitudes.proofs.Facts.{Most}
use Rattle.magnitudes.proofs.largest.Given as goal

abbrev pub invariant-loop-k : goal.invariant-loop-k
invariant-loop-k l = Most l.facts l.count l.k l.most
