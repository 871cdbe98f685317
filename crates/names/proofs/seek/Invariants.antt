-- `seek` meets its contract. The invariant: the link leads to a name of the slot or is 0, and the name that is looked for has no number
-- from the link on. The measure is the link. Assumes nothing.
use Rattle.names.specs.Table.{count, name_at}
use Rattle.names.proofs.Chains.{Seeking}
use Rattle.names.proofs.seek.Given as goal

abbrev pub invariant-loop-link : goal.invariant-loop-link
invariant-loop-link l = Seeking (name_at l.program l.output l.table) l.slot (count l.table) l.name l.link

abbrev pub decreases-loop-link : goal.decreases-loop-link
decreases-loop-link l = l.link
