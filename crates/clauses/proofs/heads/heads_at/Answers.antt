-- `heads::heads_at` meets its contract. The invariant: the rows so far stand for the heads that have been read as far as here.
-- The measure is how many more there may be. Assumes nothing.
use native.Mathlib.Omega.{arith}
use mathlib.Core.Bool.{false}
use mathlib.Core.Path.{refl}
use Rattle.std.proofs.lemmas.Result.{err_from_is_err_and}
use Rattle.syntax.proofs.Tokens.{past_here, past_countable}
use Rattle.clauses.proofs.HeadLaws.{going_start, head_stops, heads_end, heads_on}
use borrow.Author.Rules.{rules}
use Rattle.clauses.proofs.heads.heads_at.Goals as goal

pub loop-read-init : goal.loop-read-init
loop-read-init c =
    going_start c.args.program.now c.args.output.now c.args.names.now c.args.variables.now c.args.literals.now c.args.cursor c.args.start c.requires

pub returns-in_err-read : goal.returns-in_err-read
returns-in_err-read c =
    let p = err_from_is_err_and c.from_residual.result c.from_residual.ensures.1 in
    rw (p.1, p.2) (head_stops c.args.program.now c.args.output.now c.args.names.now c.args.variables.now c.args.literals.now c.args.cursor c.args.start.number c.requires.rule _ _ _ _ _ _ c.loop-read.invariant _ c.in_err-read.ensures)

pub returns-then-token-ne-BAR : goal.returns-then-token-ne-BAR
returns-then-token-ne-BAR c =
    heads_end c.args.program.now c.args.output.now c.args.names.now c.args.variables.now c.args.literals.now c.args.cursor c.args.start.number c.requires.rule _ _ _ _ _ _ c.loop-read.invariant _ _ _ c.in_ok-read.ensures _ c.atom_row-row.ensures c.put_literal.ensures.0 _ c.put_literal.ensures.1 _ c.token_at-token.ensures c.if-token-ne-BAR.true

pub past-requires : goal.past-requires
past-requires c =
    past_countable false c.args.program.now _ _ c.token_at-token.ensures (omega arith)

pub token_at-first-requires : goal.token_at-first-requires
token_at-first-requires c =
    rw (c.onward-here.ensures, c.past.ensures) (past_here false c.args.program.now _ _ c.token_at-token.ensures (λ q. refl))

pub loop-read-preserved : goal.loop-read-preserved
loop-read-preserved c = heads_on c.args.program.now c.args.output.now c.args.names.now c.args.variables.now c.args.literals.now c.args.cursor c.args.start.number c.requires.rule _ _ _ _ _ _ c.loop-read.invariant _ _ _ c.in_ok-read.ensures _ c.atom_row-row.ensures c.put_literal.ensures.0 _ c.put_literal.ensures.1 _ c.token_at-token.ensures c.if-token-ne-BAR.false (search (rules, c.loop-read.invariant.long)) _ (rw c.past.ensures at c.onward-here.ensures) _ c.token_at-first.ensures
