-- `fault_of` meets its contract: the refusal of the clash, and the place of its fact. Assumes nothing.
use Rattle.candidate.proofs.fault_of.Goals as goal

pub returns : goal.returns
returns c = rw (c.refusal_of.ensures, c.fact_part-place.ensures)
