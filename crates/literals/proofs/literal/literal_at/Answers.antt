-- `literal::literal_at` meets its contract. Assumes nothing.
use native.Mathlib.Omega.{arith}
use mathlib.Core.Path.{sym as inv, ◌∙◌}
use mathlib.Core.Bool.{false}
use borrow.Author.Tests.{not-true, not-false}
use Rattle.syntax.proofs.Readings.{passed_up}
use Rattle.syntax.proofs.Tokens.{past_countable}
use Rattle.literals.proofs.BuiltinLaws.{at_token, ready_token}
use Rattle.literals.proofs.LiteralLaws.{not_over, minus_over, not_stops, not_goes, minus_goes, literal_wrong, literal_refused, ready_left, literal_compared}
use borrow.Author.Rules.{rules}
use Rattle.literals.proofs.literal.literal_at.Goals as goal

pub past-requires : goal.past-requires
past-requires c =
    past_countable false c.args.program.now c.args.cursor.at.start _ c.token_at-token.ensures (omega arith)

pub returns-in_err-none_too_many : goal.returns-in_err-none_too_many
returns-in_err-none_too_many c =
    rw (passed_up c.from_residual.ensures, c.in_err-none_too_many.ensures.0) (not_over c.args.program.now c.args.output.now c.args.names.now c.args.variables.now c.args.cursor c.requires _ c.token_at-token.ensures c.if-token-eq-NOT.true c.in_err-none_too_many.ensures.1)

pub token_at-next-requires : goal.token_at-next-requires
token_at-next-requires c =
    rw (c.onward-behind.ensures, c.past.ensures) (ready_token c.args.program.now c.args.output.now c.args.names.now c.args.variables.now c.args.cursor c.requires _ c.token_at-token.ensures (λ z. omega (arith, c.if-token-eq-NOT.true))).ready.stands

pub atom_at-requires : goal.atom_at-requires
atom_at-requires c =
    at_token _ _ _ _ _ (rw (c.onward-behind.ensures, c.past.ensures) (ready_token c.args.program.now c.args.output.now c.args.names.now c.args.variables.now c.args.cursor c.requires _ c.token_at-token.ensures (λ z. omega (arith, c.if-token-eq-NOT.true)))) _ c.token_at-next.ensures

pub returns-in_err-atom : goal.returns-in_err-atom
returns-in_err-atom c =
    rw (passed_up c.from_residual-in_err-atom.ensures) (not_stops c.args.program.now c.args.output.now c.args.names.now c.args.variables.now c.args.cursor c.requires _ c.token_at-token.ensures c.if-token-eq-NOT.true c.in_ok-none_too_many.ensures _ (rw (c.onward-behind.ensures, c.past.ensures) at c.in_err-atom.ensures))

pub returns-then-token-eq-NOT : goal.returns-then-token-eq-NOT
returns-then-token-eq-NOT c =
    rw c.of_atom.ensures (not_goes c.args.program.now c.args.output.now c.args.names.now c.args.variables.now c.args.cursor c.requires _ c.token_at-token.ensures c.if-token-eq-NOT.true c.in_ok-none_too_many.ensures _ _ _ (rw (c.onward-behind.ensures, c.past.ensures) at c.in_ok-atom.ensures))

pub returns-in_err-none_too_many-2 : goal.returns-in_err-none_too_many-2
returns-in_err-none_too_many-2 c =
    rw (passed_up c.from_residual-in_err-none_too_many-2.ensures, c.in_err-none_too_many-2.ensures.0) (minus_over c.args.program.now c.args.output.now c.args.names.now c.args.variables.now c.args.cursor c.requires _ c.token_at-token.ensures c.if-token-eq-MINUS.true c.in_err-none_too_many-2.ensures.1)

pub minus_literal-requires : goal.minus_literal-requires
minus_literal-requires c =
    rw (c.onward-behind.ensures, c.past.ensures) (ready_token c.args.program.now c.args.output.now c.args.names.now c.args.variables.now c.args.cursor c.requires _ c.token_at-token.ensures (λ z. omega (arith, c.if-token-eq-MINUS.true)))

pub returns-then-token-eq-MINUS : goal.returns-then-token-eq-MINUS
returns-then-token-eq-MINUS c =
    minus_goes c.args.program.now c.args.output.now c.args.names.now c.args.variables.now c.args.cursor c.requires _ c.token_at-token.ensures c.if-token-eq-MINUS.true c.in_ok-none_too_many-2.ensures _ _ _ (rw (c.onward-behind.ensures, c.past.ensures) at c.minus_literal.ensures)

pub returns-then-not-begins_term : goal.returns-then-not-begins_term
returns-then-not-begins_term c =
    literal_wrong c.args.program.now c.args.output.now c.args.names.now c.args.variables.now c.args.cursor c.requires _ c.token_at-token.ensures c.if-token-eq-NAME.false c.if-token-eq-MINUS.false (inv c.begins_term.ensures ∙ not-true _ c.if-not-begins_term.true-raw)

pub term_at-requires : goal.term_at-requires
term_at-requires c =
    at_token _ _ _ _ _ c.requires _ c.token_at-token.ensures

pub returns-in_err-left : goal.returns-in_err-left
returns-in_err-left c =
    rw (passed_up c.from_residual-in_err-left.ensures) (literal_refused c.args.program.now c.args.output.now c.args.names.now c.args.variables.now c.args.cursor c.requires _ c.token_at-token.ensures c.if-token-eq-NAME.false c.if-token-eq-NOT.false (inv c.begins_term.ensures ∙ not-false _ c.if-not-begins_term.false-raw) _ c.in_err-left.ensures)

pub side_at-requires : goal.side_at-requires
side_at-requires c =
    rw c.onward-behind-2.ensures (ready_left c.args.program.now c.args.output.now c.args.names.now c.args.variables.now c.args.cursor c.requires _ c.token_at-token.ensures c.if-token-eq-NAME.false c.if-token-eq-NOT.false (inv c.begins_term.ensures ∙ not-false _ c.if-not-begins_term.false-raw) _ _ _ c.in_ok-left.ensures (search rules))

pub returns : goal.returns
returns c =
    literal_compared c.args.program.now c.args.output.now c.args.names.now c.args.variables.now c.args.cursor c.requires _ c.token_at-token.ensures c.if-token-eq-NAME.false c.if-token-eq-NOT.false (inv c.begins_term.ensures ∙ not-false _ c.if-not-begins_term.false-raw) _ _ _ c.in_ok-left.ensures _ _ _ (rw c.onward-behind-2.ensures at c.side_at.ensures)
