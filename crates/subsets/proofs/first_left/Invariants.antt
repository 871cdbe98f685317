-- `first_left` meets its contract. The invariant: all before `at` are ruled out. Assumes nothing.
use Rattle.subsets.specs.Table.{AllOut}
use Rattle.subsets.proofs.first_left.Given as goal

abbrev pub invariant-loop-at : goal.invariant-loop-at
invariant-loop-at l = AllOut l.table l.at
