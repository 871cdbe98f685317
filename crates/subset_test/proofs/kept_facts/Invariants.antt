-- `kept_facts` meets its contract. The invariant: the set has the facts before this one whose bits the number has. Assumes nothing.
use Rattle.subset_test.specs.Smaller.{KeptFacts}
use Rattle.subset_test.proofs.kept_facts.Given as goal

abbrev pub invariant-loop-a : goal.invariant-loop-a
invariant-loop-a l = KeptFacts l.number l.a l.set
