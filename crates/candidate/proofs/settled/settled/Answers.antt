-- `settled` meets its contract: ranks where a rule asks for an order, any numbers where none does. Assumes nothing.
use Rattle.candidate.proofs.Settling.{rules_inside, comparing_plain}
use Rattle.candidate.proofs.settled.settled.Goals as goal

pub any_orders-requires : goal.any_orders-requires
any_orders-requires c = rules_inside _ _ _ _ _ _ c.requires

pub judged-requires : goal.judged-requires
judged-requires c =
    record { output = c.args.output.now; names = c.args.names.now; settling = c.requires; comparing = comparing_plain _ _ _ _ (c.any_orders.ensures c.if-any_orders.false) }

pub returns : goal.returns
returns c =
    λ P I s. c.judged.ensures _ _ P I s (comparing_plain _ _ _ _ (c.any_orders.ensures c.if-any_orders.false))
