-- `builtin::side_at` meets its contract. Assumes nothing.
use mathlib.Core.Path.{sym as inv, ◌∙◌}
use mathlib.Core.Bool.{false}
use native.Mathlib.Omega.{arith}
use Rattle.syntax.proofs.Readings.{passed_up}
use Rattle.syntax.proofs.Tokens.{past_countable}
use borrow.Author.Tests.{not-true, not-false}
use Rattle.literals.proofs.BuiltinLaws.{at_token, sign_no_end, ready_token, ready_term, side_wrong, side_stops, side_goes}
use borrow.Author.Rules.{rules}
use Rattle.literals.proofs.builtin.side_at.Goals as goal

pub returns-then-not-is_comparison : goal.returns-then-not-is_comparison
returns-then-not-is_comparison c =
    λ a ha. side_wrong c.args.program.now c.args.output.now c.args.names.now c.args.variables.now c.args.cursor c.requires.behind _ c.token_at-token.ensures c.args.left (inv c.is_comparison.ensures ∙ not-true _ c.if-not-is_comparison.true-raw) a

pub past-requires : goal.past-requires
past-requires c =
    past_countable false c.args.program.now c.args.cursor.at.start _ c.token_at-token.ensures (omega arith)

pub token_at-next-requires : goal.token_at-next-requires
token_at-next-requires c =
    rw (c.onward-behind.ensures, c.past.ensures) (ready_token c.args.program.now c.args.output.now c.args.names.now c.args.variables.now c.args.cursor c.requires.behind _ c.token_at-token.ensures (sign_no_end _ (inv c.is_comparison.ensures ∙ not-false _ c.if-not-is_comparison.false-raw))).ready.stands

pub term_at-requires : goal.term_at-requires
term_at-requires c =
    at_token _ _ _ _ _ (rw (c.onward-behind.ensures, c.past.ensures) (ready_token c.args.program.now c.args.output.now c.args.names.now c.args.variables.now c.args.cursor c.requires.behind _ c.token_at-token.ensures (sign_no_end _ (inv c.is_comparison.ensures ∙ not-false _ c.if-not-is_comparison.false-raw)))) _ c.token_at-next.ensures

pub returns-in_err-right : goal.returns-in_err-right
returns-in_err-right c =
    λ a ha. rw (passed_up c.from_residual.ensures) (side_stops c.args.program.now c.args.output.now c.args.names.now c.args.variables.now c.args.cursor c.requires.behind _ c.token_at-token.ensures c.args.left (inv c.is_comparison.ensures ∙ not-false _ c.if-not-is_comparison.false-raw) a _ (rw (c.onward-behind.ensures, c.past.ensures) at c.in_err-right.ensures))

pub operation_at-requires : goal.operation_at-requires
operation_at-requires c = rw c.onward-end.ensures (ready_term c.args.program.now c.args.output.now c.args.names.now c.args.variables.now c.args.cursor c.requires.behind _ c.token_at-token.ensures (sign_no_end _ (inv c.is_comparison.ensures ∙ not-false _ c.if-not-is_comparison.false-raw)) _ _ _ (rw (c.onward-behind.ensures, c.past.ensures) at c.in_ok-right.ensures) (search rules))

pub returns : goal.returns
returns c =
    side_goes c.args.program.now c.args.output.now c.args.names.now c.args.variables.now c.args.cursor c.requires.behind _ c.token_at-token.ensures _ (inv c.is_comparison.ensures ∙ not-false _ c.if-not-is_comparison.false-raw) _ _ _ (rw (c.onward-behind.ensures, c.past.ensures) at c.in_ok-right.ensures) _ c.comparison_code.ensures _ _ _ (rw c.onward-end.ensures at c.operation_at.ensures)
