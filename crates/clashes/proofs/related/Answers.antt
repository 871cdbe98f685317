-- `related` meets its contract. Assumes nothing.
use Rattle.clashes.specs.Clashes.{related}
use Rattle.clashes.proofs.related.Goals as goal

pub returns-then-opposed : goal.returns-then-opposed
unfolding related
returns-then-opposed c = rw c.if-opposed.true c.differ_in_sign.ensures

pub returns : goal.returns
unfolding related
returns c = rw c.if-opposed.false
