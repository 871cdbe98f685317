-- `left_is_next` meets its contract: one side may have no more, else the names tell. Assumes nothing.
use Rattle.ranks.proofs.Choosing.{none_left, none_right, both_there}
use Rattle.ranks.proofs.left_is_next.Goals as goal

pub returns-then-left-i : goal.returns-then-left-i
returns-then-left-i c = let p = c.requires in none_left _ _ _ _ _ c.if-left-i.true p.1 p.3

pub returns-then-right-j : goal.returns-then-right-j
returns-then-right-j c = none_right _ _ _ _ _ c.if-left-i.false c.if-right-j.true

pub returns : goal.returns
returns c = both_there _ _ _ _ _ _ c.if-left-i.false c.if-right-j.false c.in_order.ensures
