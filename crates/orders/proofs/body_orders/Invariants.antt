-- `body_orders` meets its contract. The invariant: no literal before l asks. Assumes nothing.
use Rattle.orders.specs.Orders.{Plain}
use Rattle.orders.proofs.body_orders.Given as goal

abbrev pub invariant-loop-l : goal.invariant-loop-l
invariant-loop-l l = Plain l.store l.first l.l
