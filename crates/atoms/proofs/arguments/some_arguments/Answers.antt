-- `arguments::some_arguments` meets its contract. The invariant: the numbers so far stand for the arguments that have been read as far as here.
-- The measure is how many more there may be. Assumes nothing.
use mathlib.Core.Path.{refl}
use native.Mathlib.Omega.{arith}
use Rattle.std.proofs.lemmas.Result.{err_from_is_err_and}
use Rattle.syntax.proofs.Lists.{separator_stands}
use Rattle.atoms.proofs.ArgumentLists.{going_start, going_ready, going_stops, going_wrong, going_end, going_on}
use borrow.Author.Rules.{rules}
use Rattle.atoms.proofs.arguments.some_arguments.Goals as goal

pub loop-read-init : goal.loop-read-init
loop-read-init c = (going_start c.args.program.now c.args.output.now c.args.text.now c.args.names.now c.args.variables.now c.args.cursor c.requires.ready.ready _ c.requires.ready.is_token c.requires.some_one _ refl, c.requires.ready.is_token)

pub term_at-requires : goal.term_at-requires
term_at-requires c =
    rw c.onward-here.ensures (record { ready = going_ready c.args.program.now c.args.output.now c.args.text.now c.args.names.now c.args.variables.now c.args.cursor _ _ _ _ _ _ c.loop-read.invariant.0 c.requires.ready.ready _; is_token = c.loop-read.invariant.1 })

pub returns-in_err-read : goal.returns-in_err-read
returns-in_err-read c =
    let p = err_from_is_err_and c.from_residual.result c.from_residual.ensures.1 in
    rw (p.1, p.2) (going_stops c.args.program.now c.args.output.now c.args.text.now c.args.names.now c.args.variables.now c.args.cursor _ _ _ _ _ _ c.loop-read.invariant.0 _ (rw c.onward-here.ensures at c.in_err-read.ensures))

pub returns-in_err-end : goal.returns-in_err-end
returns-in_err-end c =
    let p = err_from_is_err_and c.from_residual-in_err-end.result c.from_residual-in_err-end.ensures.1 in
    rw (p.1, p.2) (going_wrong c.args.program.now c.args.output.now c.args.text.now c.args.names.now c.args.variables.now c.args.cursor _ _ _ _ _ _ c.loop-read.invariant.0 _ _ _ (rw c.onward-here.ensures at c.in_ok-read.ensures) _ c.in_err-end.ensures)

pub returns-then-end : goal.returns-then-end
returns-then-end c =
    going_end c.args.program.now c.args.output.now c.args.text.now c.args.names.now c.args.variables.now c.args.cursor _ _ _ _ _ _ c.loop-read.invariant.0 _ _ _ (rw c.onward-here.ensures at c.in_ok-read.ensures) _ c.in_ok-end.ensures c.if-end.true

pub token_at-token-requires : goal.token_at-token-requires
token_at-token-requires c =
    separator_stands c.args.cursor.ground c.args.text.now _ _ (λ z. omega arith) _ c.in_ok-end.ensures

pub loop-read-preserved : goal.loop-read-preserved
loop-read-preserved c = (going_on c.args.program.now c.args.output.now c.args.text.now c.args.names.now c.args.variables.now c.args.cursor _ _ _ _ _ _ c.loop-read.invariant.0 _ _ _ (rw c.onward-here.ensures at c.in_ok-read.ensures) _ c.in_ok-end.ensures (search (rules, c.loop-read.invariant.0.names_long)) (search (rules, c.loop-read.invariant.0.long)) c.if-end.false, c.token_at-token.ensures)
