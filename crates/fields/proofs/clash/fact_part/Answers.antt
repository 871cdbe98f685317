-- `clash::fact_part` meets its contract: the line's start, counted on as far as the fact. Assumes nothing.
use Rattle.fields.proofs.clash.fact_part.Goals as goal

pub along-start-requires : goal.along-start-requires
along-start-requires c =
    rw c.number_at.ensures c.requires.2

pub returns : goal.returns
returns c =
    rw (c.with_len.ensures, c.along-start.ensures, c.number_at.ensures, c.number_at-2.ensures)
