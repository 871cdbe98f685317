-- `atom::minus_atom` meets its contract. Assumes nothing.
use mathlib.Core.Path.{refl}
use native.Mathlib.Omega.{arith}
use Rattle.std.proofs.lemmas.Result.{err_from_is_err_and}
use Rattle.rows.proofs.Growth.{room_less}
use Rattle.names.proofs.Numbered.{grown_coded_name, interned_below}
use Rattle.syntax.proofs.Tokens.{within, forward, past_countable}
use Rattle.syntax.proofs.Atoms.{minus_wrong, minus_stops}
use Rattle.terms.proofs.TermLaws.{name_filled}
use Rattle.atoms.proofs.AtomLaws.{ready_named, minus_goes}
use Rattle.atoms.proofs.atom.minus_atom.Goals as goal

pub returns-then-token-ne-NAME : goal.returns-then-token-ne-NAME
returns-then-token-ne-NAME c =
    minus_wrong c.args.cursor.ground c.args.text.now c.args.cursor.at.start _ c.token_at-token.ensures _ c.if-token-ne-NAME.true

pub returns-in_err-fits_word : goal.returns-in_err-fits_word
returns-in_err-fits_word c =
    let p = err_from_is_err_and c.from_residual.result c.from_residual.ensures.1 in
    rw (p.1, p.2, c.in_err-fits_word.ensures.0) (minus_stops c.args.cursor.ground c.args.text.now c.args.cursor.at.start _ c.token_at-token.ensures _ c.if-token-ne-NAME.false (c.in_err-fits_word.ensures.1 refl))

pub name_number-number-requires : goal.name_number-number-requires
name_number-number-requires c =
    ((room_less _ _ 1 c.requires.room (omega (arith, within c.args.cursor.ground c.args.text.now c.args.cursor.at.start _ c.token_at-token.ensures, forward c.args.cursor.ground c.args.text.now c.args.cursor.at.start _ c.token_at-token.ensures (λ q. omega (arith, c.if-token-ne-NAME.false)))), c.requires.source), name_filled c.args.cursor.ground c.args.text.now c.args.cursor.at.start _ c.token_at-token.ensures c.if-token-ne-NAME.false)

pub past-requires : goal.past-requires
past-requires c =
    past_countable c.args.cursor.ground c.args.text.now c.args.cursor.at.start _ c.token_at-token.ensures (omega arith)

pub named_atom-requires : goal.named_atom-requires
named_atom-requires c =
    record { ready = rw (c.onward-behind.ensures, c.past.ensures) (ready_named c.args.program.now c.args.output.now c.args.text.now c.args.names.now c.args.variables.now c.args.cursor c.requires _ c.token_at-token.ensures c.if-token-ne-NAME.false _ _ c.name_number-number.ensures); small = interned_below _ _ _ _ _ _ c.name_number-number.ensures; bytes = _; stands = grown_coded_name _ _ _ _ c.name_number-number.ensures.1 }

pub returns : goal.returns
returns c =
    minus_goes c.args.program.now c.args.output.now c.args.text.now c.args.names.now c.args.variables.now c.args.cursor c.requires _ c.token_at-token.ensures c.if-token-ne-NAME.false _ _ c.name_number-number.ensures c.in_ok-fits_word.ensures.0 _ _ _ (rw (c.onward-behind.ensures, c.past.ensures) at c.named_atom.ensures)
