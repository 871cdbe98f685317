-- `any_orders` meets its contract. The invariant: no rule before r asks. Assumes nothing.
use Rattle.orders.proofs.Passed.{rules_more}
use Rattle.orders.proofs.any_orders.Goals as goal

pub loop-r-preserved : goal.loop-r-preserved
loop-r-preserved c = rules_more _ _ _ _ c.rule_column-first.ensures c.rule_column-length.ensures c.loop-r.invariant (c.body_orders.ensures c.if-body_orders.false)
