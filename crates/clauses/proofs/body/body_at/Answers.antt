-- `body::body_at` meets its contract. The invariant: the rows so far stand for the literals that have been read as far as here.
-- The measure is how many more there may be. Assumes nothing.
use Rattle.std.proofs.lemmas.Result.{err_from_is_err_and}
use Rattle.clauses.proofs.BodyLaws.{going_start, going_ready, going_stops, going_wrong, going_end, going_on}
use borrow.Author.Rules.{rules}
use Rattle.clauses.proofs.body.body_at.Goals as goal

pub loop-read-init : goal.loop-read-init
loop-read-init c = going_start c.args.program.now c.args.output.now c.args.names.now c.args.variables.now c.args.literals.now c.args.cursor c.args.first c.requires

pub literal_at-requires : goal.literal_at-requires
literal_at-requires c =
    rw c.onward-here.ensures (going_ready c.args.program.now c.args.output.now c.args.names.now c.args.variables.now c.args.literals.now c.args.cursor c.args.first _ _ _ _ _ _ c.loop-read.invariant c.requires _)

pub returns-in_err-read : goal.returns-in_err-read
returns-in_err-read c =
    let p = err_from_is_err_and c.from_residual.result c.from_residual.ensures.1 in
    rw (p.1, p.2) (going_stops c.args.program.now c.args.output.now c.args.names.now c.args.variables.now c.args.literals.now c.args.cursor c.args.first _ _ _ _ _ _ c.loop-read.invariant _ (rw c.onward-here.ensures at c.in_err-read.ensures))

pub returns-in_err-end : goal.returns-in_err-end
returns-in_err-end c =
    let p = err_from_is_err_and c.from_residual-in_err-end.result c.from_residual-in_err-end.ensures.1 in
    rw (p.1, p.2) (going_wrong c.args.program.now c.args.output.now c.args.names.now c.args.variables.now c.args.literals.now c.args.cursor c.args.first _ _ _ _ _ _ c.loop-read.invariant _ _ _ (rw c.onward-here.ensures at c.in_ok-read.ensures) _ c.in_err-end.ensures)

pub returns-then-end : goal.returns-then-end
returns-then-end c =
    going_end c.args.program.now c.args.output.now c.args.names.now c.args.variables.now c.args.literals.now c.args.cursor c.args.first _ _ _ _ _ _ c.loop-read.invariant _ _ _ (rw c.onward-here.ensures at c.in_ok-read.ensures) c.requires.long c.put_literal.ensures.0 _ c.put_literal.ensures.1 _ c.in_ok-end.ensures c.if-end.true

pub loop-read-preserved : goal.loop-read-preserved
loop-read-preserved c = going_on c.args.program.now c.args.output.now c.args.names.now c.args.variables.now c.args.literals.now c.args.cursor c.args.first _ _ _ _ _ _ c.loop-read.invariant _ _ _ (rw c.onward-here.ensures at c.in_ok-read.ensures) c.requires.long c.put_literal.ensures.0 _ c.put_literal.ensures.1 _ c.in_ok-end.ensures (search (rules, c.loop-read.invariant.names_long)) (search (rules, c.loop-read.invariant.long)) c.if-end.false
