-- `complete_rule` meets its contract: the literals and the equations' places are lent. Assumes nothing.
use Rattle.overflow.proofs.complete_rule.Goals as goal

pub complete-requires : goal.complete-requires
complete-requires c = rw (c.literals.ensures, c.equation_places.ensures) (c.requires.2.row, c.requires.3)

pub returns : goal.returns
returns c = rw (c.literals.ensures, c.equation_places.ensures) at c.complete.ensures
