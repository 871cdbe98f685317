-- `kept_facts` meets its contract. The invariant: the set has the facts before this one whose bits the number has. Assumes nothing.
use native.Mathlib.Omega.{arith}
use Rattle.subset_test.proofs.KeptSets.{bit_one, bit_not_one, no_facts, fact_marked, fact_passed}
use Rattle.subset_test.proofs.kept_facts.Goals as goal
use Rattle.subset_test.proofs.kept_facts.Goals.{then-number-a-eq1, else-number-a-eq1}

pub loop-a-init : goal.loop-a-init
loop-a-init c = rw c.empty-set.ensures (no_facts c.args.number)

pub loop-a-preserved : goal.loop-a-preserved
loop-a-preserved c =
    let loop = c.loop-a in
    elim c.if-number-a-eq1.branch [
      | then-number-a-eq1 w ↦ rw w.set-is (fact_marked c.args.number loop.a loop.set loop.invariant (bit_one _ _ w.if-number-a-eq1.true) (omega (arith, c.requires, c.loop-a-test.true)) _ w.mark-set.ensures)
      | else-number-a-eq1 w ↦ rw w.set-is (fact_passed c.args.number loop.a loop.set loop.invariant (bit_not_one _ _ w.if-number-a-eq1.false))
    ]
