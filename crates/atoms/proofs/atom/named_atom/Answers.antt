-- `atom::named_atom` meets its contract. Assumes nothing.
use native.Mathlib.Omega.{arith}
use Rattle.std.proofs.lemmas.Result.{err_from_is_err_and}
use Rattle.atoms.proofs.AtomLaws.{ready_behind, named_bare, named_stops, named_goes}
use Rattle.syntax.proofs.Tokens.{past_countable}
use Rattle.atoms.proofs.atom.named_atom.Goals as goal

pub returns-then-token-ne-OPEN : goal.returns-then-token-ne-OPEN
returns-then-token-ne-OPEN c =
    named_bare c.args.program.now c.args.output.now c.args.text.now c.args.names.now c.args.variables.now c.args.cursor c.requires.ready _ c.token_at-token.ensures _ c.if-token-ne-OPEN.true _ c.predicate.ensures _

pub past-requires : goal.past-requires
past-requires c =
    past_countable c.args.cursor.ground c.args.text.now c.args.cursor.at.start _ c.token_at-token.ensures (omega arith)

pub arguments_at-requires : goal.arguments_at-requires
arguments_at-requires c =
    rw (c.onward-inside.ensures, c.past.ensures) (ready_behind c.args.program.now c.args.output.now c.args.text.now c.args.names.now c.args.variables.now c.args.cursor c.requires.ready _ c.token_at-token.ensures 5 c.if-token-ne-OPEN.false (λ z. omega arith))

pub returns-in_err-read : goal.returns-in_err-read
returns-in_err-read c =
    let p = err_from_is_err_and c.from_residual.result c.from_residual.ensures.1 in
    rw (p.1, p.2) (named_stops c.args.program.now c.args.output.now c.args.text.now c.args.names.now c.args.variables.now c.args.cursor c.requires.ready _ c.token_at-token.ensures _ c.if-token-ne-OPEN.false _ (rw (c.onward-inside.ensures, c.past.ensures) at c.in_err-read.ensures))

pub returns : goal.returns
returns c =
    named_goes c.args.program.now c.args.output.now c.args.text.now c.args.names.now c.args.variables.now c.args.cursor c.requires.ready _ c.token_at-token.ensures _ c.if-token-ne-OPEN.false _ _ _ (rw (c.onward-inside.ensures, c.past.ensures) at c.in_ok-read.ensures) _ c.predicate-2.ensures
