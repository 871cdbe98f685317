-- `literal::minus_literal` meets its contract. Assumes nothing.
use Rattle.syntax.proofs.Readings.{passed_up}
use Rattle.literals.proofs.LiteralLaws.{minus_atom_stops, minus_atom_goes, minus_refused, ready_negative, minus_compared}
use Rattle.literals.proofs.literal.minus_literal.Goals as goal

pub returns-in_err-left : goal.returns-in_err-left
returns-in_err-left c =
    rw (passed_up c.from_residual.ensures) (minus_refused c.args.program.now c.args.output.now c.args.names.now c.args.variables.now c.args.cursor c.requires _ c.token_at-token.ensures c.if-token-eq-NUMBER.true _ c.in_err-left.ensures)

pub side_at-requires : goal.side_at-requires
side_at-requires c =
    rw c.onward-behind.ensures (ready_negative c.args.program.now c.args.output.now c.args.names.now c.args.variables.now c.args.cursor c.requires _ c.token_at-token.ensures c.if-token-eq-NUMBER.true _ c.in_ok-left.ensures)

pub returns-then-token-eq-NUMBER : goal.returns-then-token-eq-NUMBER
returns-then-token-eq-NUMBER c =
    minus_compared c.args.program.now c.args.output.now c.args.names.now c.args.variables.now c.args.cursor c.requires _ c.token_at-token.ensures c.if-token-eq-NUMBER.true _ c.in_ok-left.ensures _ _ _ (rw c.onward-behind.ensures at c.side_at.ensures)

pub returns-in_err-atom : goal.returns-in_err-atom
returns-in_err-atom c =
    rw (passed_up c.from_residual-in_err-atom.ensures) (minus_atom_stops c.args.program.now c.args.output.now c.args.names.now c.args.variables.now c.args.cursor c.requires _ c.token_at-token.ensures c.if-token-eq-NUMBER.false _ c.in_err-atom.ensures)

pub returns : goal.returns
returns c =
    rw c.of_atom.ensures (minus_atom_goes c.args.program.now c.args.output.now c.args.names.now c.args.variables.now c.args.cursor c.requires _ c.token_at-token.ensures c.if-token-eq-NUMBER.false _ _ _ c.in_ok-atom.ensures)
