-- `clause::rule_at` meets its contract. Assumes nothing.
use mathlib.Core.Bool.{false}
use native.Mathlib.Omega.{arith}
use Rattle.std.proofs.lemmas.Result.{err_from_is_err_and}
use Rattle.syntax.proofs.Tokens.{past_countable}
use Rattle.clauses.proofs.RuleLaws.{rule_ended, if_over, ready_if, if_stops, if_goes}
use Rattle.clauses.proofs.clause.rule_at.Goals as goal

pub returns-then-token-eq-END : goal.returns-then-token-eq-END
returns-then-token-eq-END c =
    rule_ended c.args.program.now c.args.output.now c.args.names.now c.args.variables.now c.args.literals.now c.args.cursor c.args.number c.requires _ c.token_at-token.ensures c.if-token-eq-END.true

pub returns-then-cursor : goal.returns-then-cursor
returns-then-cursor c =
    if_over c.args.program.now c.args.output.now c.args.names.now c.args.variables.now c.args.literals.now c.args.cursor c.args.number c.requires _ c.token_at-token.ensures c.if-token-ne-IF.false c.if-cursor.true

pub past-requires : goal.past-requires
past-requires c =
    past_countable false c.args.program.now c.args.cursor.at.start _ c.token_at-token.ensures (omega arith)

pub body_at-requires : goal.body_at-requires
body_at-requires c =
    rw (c.onward-behind.ensures, c.past.ensures) (ready_if c.args.program.now c.args.output.now c.args.names.now c.args.variables.now c.args.literals.now c.args.cursor c.args.number c.requires _ c.token_at-token.ensures c.if-token-ne-IF.false c.if-cursor.false)

pub returns-in_err-body : goal.returns-in_err-body
returns-in_err-body c =
    let p = err_from_is_err_and c.from_residual-in_err-body.result c.from_residual-in_err-body.ensures.1 in
    rw (p.1, p.2) (if_stops c.args.program.now c.args.output.now c.args.names.now c.args.variables.now c.args.literals.now c.args.cursor c.args.number c.requires _ c.token_at-token.ensures c.if-token-ne-IF.false c.if-cursor.false _ (rw (c.onward-behind.ensures, c.past.ensures) at c.in_err-body.ensures))

pub returns : goal.returns
returns c =
    rw c.bodied.ensures (if_goes c.args.program.now c.args.output.now c.args.names.now c.args.variables.now c.args.literals.now c.args.cursor c.args.number c.requires _ c.token_at-token.ensures c.if-token-ne-IF.false c.if-cursor.false _ _ _ _ (rw (c.onward-behind.ensures, c.past.ensures) at c.in_ok-body.ensures))
