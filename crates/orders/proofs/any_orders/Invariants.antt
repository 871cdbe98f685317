-- `any_orders` meets its contract. The invariant: no rule before r asks. Assumes nothing.
use Rattle.orders.specs.Orders.{PlainRule}
use Rattle.orders.proofs.any_orders.Given as goal

abbrev pub invariant-loop-r : goal.invariant-loop-r
invariant-loop-r l = PlainRule l.store l.r
