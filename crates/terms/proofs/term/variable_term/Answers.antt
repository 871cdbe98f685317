-- `term::variable_term` meets its contract. Assumes nothing.
use Rattle.syntax.proofs.Readings.{passed_up}
use Rattle.terms.proofs.TermLaws.{variable_stops, variable_many, variable_known, variable_new}
use Rattle.terms.proofs.term.variable_term.Goals as goal

pub returns-in_err-fits_word : goal.returns-in_err-fits_word
returns-in_err-fits_word c =
    λ at et ek. rw (passed_up c.from_residual.ensures, c.in_err-fits_word.ensures.0) (variable_stops c.args.over c.args.text.now at _ et c.args.variables.now c.args.met c.requires.few ek c.in_err-fits_word.ensures.1)

pub returns-then-number-met : goal.returns-then-number-met
returns-then-number-met c =
    λ at et ek. rw c.past.ensures (variable_known c.args.over c.args.text.now at _ et c.args.variables.now c.args.met c.requires.few ek _ c.variable_number-number.ensures c.in_ok-fits_word.ensures.0 c.in_ok-fits_word.ensures.1 c.if-number-met.true)

pub returns-then-number-ge-MOST_VARIABLES : goal.returns-then-number-ge-MOST_VARIABLES
returns-then-number-ge-MOST_VARIABLES c =
    λ at et ek. variable_many c.args.over c.args.text.now at _ et c.args.variables.now c.args.met c.requires.few ek _ c.variable_number-number.ensures c.if-number-met.false c.if-number-ge-MOST_VARIABLES.true

pub returns : goal.returns
returns c =
    λ at et ek. rw c.past-2.ensures (variable_new c.args.over c.args.text.now at _ et c.args.variables.now c.args.met c.requires.few ek _ c.variable_number-number.ensures c.in_ok-fits_word.ensures.0 c.in_ok-fits_word.ensures.1 c.requires.long c.if-number-met.false c.if-number-ge-MOST_VARIABLES.false _ c.put_place.ensures)
