-- `term::negative_number` meets its contract. Assumes nothing.
use Rattle.terms.proofs.TermLaws.{negative_number, negative_wrong}
use native.Mathlib.Omega.{arith}
use Rattle.syntax.proofs.Tokens.{past_countable}
use Rattle.terms.proofs.term.negative_number.Goals as goal

pub number_term-requires : goal.number_term-requires
number_term-requires c =
    past_countable c.args.ground c.args.text.now c.args.at.start _ c.token_at-token.ensures (omega arith)

pub returns-then-token-eq-NUMBER : goal.returns-then-token-eq-NUMBER
returns-then-token-eq-NUMBER c =
    negative_number c.args.ground c.args.text.now c.args.at.start _ c.token_at-token.ensures c.if-token-eq-NUMBER.true _ _ c.number_term.ensures

pub returns : goal.returns
returns c =
    negative_wrong c.args.ground c.args.text.now c.args.at.start _ c.token_at-token.ensures c.if-token-eq-NUMBER.false _
