-- `term::anonymous_term` meets its contract. Assumes nothing.
use Rattle.terms.proofs.TermLaws.{anonymous_over, anonymous_many, anonymous_new}
use Rattle.terms.proofs.term.anonymous_term.Goals as goal
use Rattle.terms.proofs.term.anonymous_term.Goals.{then-over-via-then-over, then-over-via-else-over+then-met-ge-MOST_VARIABLES}

pub returns-then-over : goal.returns-then-over
returns-then-over c =
    λ text at et ek. elim c.then-over.branch [ then-over-via-then-over w ↦ anonymous_over c.args.over text at _ et c.args.variables.now c.args.met c.requires.few ek w.if-over.true | then-over-via-else-over+then-met-ge-MOST_VARIABLES w ↦ anonymous_many c.args.over text at _ et c.args.variables.now c.args.met c.requires.few ek w.if-met-ge-MOST_VARIABLES.true ]

pub returns : goal.returns
returns c =
    λ text at et ek. rw c.past.ensures (anonymous_new c.args.over text at _ et c.args.variables.now c.args.met c.requires.few ek c.requires.long c.if-over.false c.if-met-ge-MOST_VARIABLES.false _ c.put_place.ensures)
