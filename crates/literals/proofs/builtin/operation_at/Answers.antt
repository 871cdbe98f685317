-- `builtin::operation_at` meets its contract. Assumes nothing.
use native.Mathlib.Omega.{arith}
use mathlib.Core.Logic.{inl, inr}
use mathlib.Core.Bool.{false}
use Rattle.syntax.proofs.Readings.{passed_up}
use Rattle.syntax.proofs.Tokens.{past_countable}
use Rattle.literals.proofs.BuiltinLaws.{at_token, ready_token, tail_none, tail_stops, tail_goes}
use Rattle.literals.proofs.builtin.operation_at.Goals as goal
use Rattle.literals.proofs.builtin.operation_at.Goals.{then-token-lt-MINUS-via-then-token-lt-MINUS, then-token-lt-MINUS-via-else-token-lt-MINUS+then-token-gt-TIMES}

pub returns-then-token-lt-MINUS : goal.returns-then-token-lt-MINUS
returns-then-token-lt-MINUS c =
    tail_none c.args.program.now c.args.output.now c.args.names.now c.args.variables.now c.args.cursor c.requires _ c.token_at-token.ensures _ (elim c.then-token-lt-MINUS.branch [ then-token-lt-MINUS-via-then-token-lt-MINUS w ↦ inl w.if-token-lt-MINUS.true | then-token-lt-MINUS-via-else-token-lt-MINUS+then-token-gt-TIMES w ↦ inr w.if-token-gt-TIMES.true ]) _ c.built_in_row.ensures

pub past-requires : goal.past-requires
past-requires c =
    past_countable false c.args.program.now c.args.cursor.at.start _ c.token_at-token.ensures (omega arith)

pub token_at-next-requires : goal.token_at-next-requires
token_at-next-requires c =
    rw (c.onward-behind.ensures, c.past.ensures) (ready_token c.args.program.now c.args.output.now c.args.names.now c.args.variables.now c.args.cursor c.requires _ c.token_at-token.ensures (λ z. omega (arith, c.if-token-gt-TIMES.false))).ready.stands

pub term_at-requires : goal.term_at-requires
term_at-requires c =
    at_token _ _ _ _ _ (rw (c.onward-behind.ensures, c.past.ensures) (ready_token c.args.program.now c.args.output.now c.args.names.now c.args.variables.now c.args.cursor c.requires _ c.token_at-token.ensures (λ z. omega (arith, c.if-token-gt-TIMES.false)))) _ c.token_at-next.ensures

pub returns-in_err-operand : goal.returns-in_err-operand
returns-in_err-operand c =
    λ a b ha hb. rw (passed_up c.from_residual.ensures) (tail_stops c.args.program.now c.args.output.now c.args.names.now c.args.variables.now c.args.cursor c.requires _ c.token_at-token.ensures c.args.sides c.if-token-lt-MINUS.false c.if-token-gt-TIMES.false a b _ (rw (c.onward-behind.ensures, c.past.ensures) at c.in_err-operand.ensures))

pub returns : goal.returns
returns c =
    tail_goes c.args.program.now c.args.output.now c.args.names.now c.args.variables.now c.args.cursor c.requires _ c.token_at-token.ensures _ c.if-token-lt-MINUS.false c.if-token-gt-TIMES.false _ _ _ (rw (c.onward-behind.ensures, c.past.ensures) at c.in_ok-operand.ensures) _ c.operation_code-operation.ensures _ c.built_in_row-2.ensures
