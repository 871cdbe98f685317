-- `line::put_predicates` meets its contract. The invariant: the predicates of the facts before this one are listed. Assumes nothing.
use Rattle.factline.specs.Lines.{Listed}
use Rattle.factline.proofs.line.put_predicates.Given as goal

abbrev pub invariant-loop-k : goal.invariant-loop-k
invariant-loop-k l = Listed l.facts l.k l.initial.predicates l.predicates
