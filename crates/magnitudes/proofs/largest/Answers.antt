-- `largest` meets its contract. Assumes nothing.
use Rattle.magnitudes.proofs.Facts.{most_none, most_one, most_all}
use Rattle.magnitudes.proofs.largest.Goals as goal

pub loop-k-init : goal.loop-k-init
loop-k-init c = most_none c.args.facts.now c.args.count

pub loop-k-preserved : goal.loop-k-preserved
loop-k-preserved c =
    most_one c.args.facts.now c.args.count c.loop-k.k c.loop-k.most _ c.loop-k-test.true c.loop-k.invariant c.larger-most.ensures

pub returns : goal.returns
returns c = most_all c.args.facts.now c.args.count c.loop-k.k c.loop-k.most c.loop-k-test.false c.loop-k.invariant
