-- `term::number_term` meets its contract. Assumes nothing.
use Rattle.terms.proofs.TermLaws.{signed_range}
use Rattle.terms.proofs.term.number_term.Goals as goal

pub number_code-requires : goal.number_code-requires
number_code-requires c = signed_range _ _ c.if-number-gt-MOST_NUMBER.false
