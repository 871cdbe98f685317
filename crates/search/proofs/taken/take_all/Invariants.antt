-- `take_all` meets its contract. The invariant: the first a facts have their places. Assumes nothing.
use Rattle.search.proofs.AllTaken.{TakenTo}
use Rattle.search.proofs.taken.take_all.Given as goal

abbrev pub invariant-loop-a : goal.invariant-loop-a
invariant-loop-a l = TakenTo l.initial.when l.initial.queue l.when l.queue l.a
