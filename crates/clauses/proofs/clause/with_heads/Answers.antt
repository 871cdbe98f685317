-- `clause::with_heads` meets its contract. Assumes nothing.
use mathlib.Core.Bool.{false}
use native.Mathlib.Omega.{arith}
use Rattle.std.proofs.lemmas.Result.{err_from_is_err_and}
use Rattle.syntax.proofs.Tokens.{past_countable}
use Rattle.clauses.proofs.RuleLaws.{rule_stops, rule_fact, rule_wrong, ready_body, body_stops, body_goes}
use borrow.Author.Rules.{rules}
use Rattle.clauses.proofs.clause.with_heads.Goals as goal

pub returns-in_err-heads : goal.returns-in_err-heads
returns-in_err-heads c =
    let p = err_from_is_err_and c.from_residual.result c.from_residual.ensures.1 in
    rw (p.1, p.2) (rule_stops c.args.program.now c.args.output.now c.args.names.now c.args.variables.now c.args.literals.now c.args.cursor c.args.start.number c.args.start.token c.requires _ c.in_err-heads.ensures)

pub past-requires : goal.past-requires
past-requires c =
    past_countable false c.args.program.now _ _ c.in_ok-heads.ensures.is_token (omega arith)

pub returns-then-token-eq-DOT : goal.returns-then-token-eq-DOT
returns-then-token-eq-DOT c =
    rw c.past.ensures (rule_fact c.args.program.now c.args.output.now c.args.names.now c.args.variables.now c.args.literals.now c.args.cursor c.args.start.number c.args.start.token c.requires _ _ _ _ c.in_ok-heads.ensures c.if-token-eq-DOT.true)

pub returns-then-token-ne-IF : goal.returns-then-token-ne-IF
returns-then-token-ne-IF c =
    rule_wrong c.args.program.now c.args.output.now c.args.names.now c.args.variables.now c.args.literals.now c.args.cursor c.args.start.number c.args.start.token c.requires _ _ _ _ c.in_ok-heads.ensures c.if-token-eq-DOT.false c.if-token-ne-IF.true

pub past-requires-2 : goal.past-requires-2
past-requires-2 c =
    past_countable false c.args.program.now _ _ c.in_ok-heads.ensures.is_token (omega arith)

pub body_at-requires : goal.body_at-requires
body_at-requires c = rw (c.onward-behind.ensures, c.past-2.ensures) (ready_body c.args.program.now c.args.output.now c.args.names.now c.args.variables.now c.args.literals.now c.args.cursor c.args.start.number c.args.start.token c.requires _ _ _ _ c.in_ok-heads.ensures c.if-token-ne-IF.false (search (rules, c.heads_at)))

pub returns-in_err-body : goal.returns-in_err-body
returns-in_err-body c =
    let p = err_from_is_err_and c.from_residual-in_err-body.result c.from_residual-in_err-body.ensures.1 in
    rw (p.1, p.2) (body_stops c.args.program.now c.args.output.now c.args.names.now c.args.variables.now c.args.literals.now c.args.cursor c.args.start.number c.args.start.token c.requires _ _ _ _ c.in_ok-heads.ensures c.if-token-ne-IF.false _ (rw (c.onward-behind.ensures, c.past-2.ensures) at c.in_err-body.ensures))

pub returns : goal.returns
returns c =
    rw c.bodied.ensures (body_goes c.args.program.now c.args.output.now c.args.names.now c.args.variables.now c.args.literals.now c.args.cursor c.args.start.number c.args.start.token c.requires _ _ _ _ c.in_ok-heads.ensures c.if-token-ne-IF.false _ _ _ _ (rw (c.onward-behind.ensures, c.past-2.ensures) at c.in_ok-body.ensures))
