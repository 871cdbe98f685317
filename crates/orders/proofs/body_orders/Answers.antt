-- `body_orders` meets its contract. The invariant: no literal before l asks. Assumes nothing.
use Rattle.orders.proofs.Passed.{plain_more}
use Rattle.orders.proofs.body_orders.Goals as goal

pub loop-l-preserved : goal.loop-l-preserved
loop-l-preserved c = plain_more _ _ _ _ c.literal_column.ensures c.if-literal_column-ge-LESS.false c.loop-l.invariant
