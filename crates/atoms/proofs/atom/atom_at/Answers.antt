-- `atom::atom_at` meets its contract. Assumes nothing.
use native.Mathlib.Omega.{arith}
use Rattle.std.proofs.lemmas.Result.{err_from_is_err_and}
use Rattle.rows.proofs.Growth.{room_less}
use Rattle.names.proofs.Numbered.{grown_coded_name, interned_below}
use Rattle.syntax.proofs.Tokens.{within, forward, past_countable}
use Rattle.syntax.proofs.Atoms.{atom_stops, signed_over, atom_wrong}
use Rattle.terms.proofs.TermLaws.{name_filled}
use Rattle.atoms.proofs.AtomLaws.{ready_behind, ready_named, atom_goes, signed_goes}
use Rattle.atoms.proofs.atom.atom_at.Goals as goal

pub past-requires : goal.past-requires
past-requires c = past_countable c.args.cursor.ground c.args.text.now c.args.cursor.at.start _ c.requires.is_token (omega arith)

pub returns-in_err-fits_word : goal.returns-in_err-fits_word
returns-in_err-fits_word c =
    let p = err_from_is_err_and c.from_residual.result c.from_residual.ensures.1 in
    rw (p.1, p.2, c.in_err-fits_word.ensures.0) (atom_stops c.args.cursor.ground c.args.cursor.over c.args.text.now c.args.cursor.at.start _ c.requires.is_token _ c.if-token-eq-NAME.true c.in_err-fits_word.ensures.1)

pub name_number-number-requires : goal.name_number-number-requires
name_number-number-requires c =
    ((room_less _ _ 1 c.requires.ready.room (omega (arith, within c.args.cursor.ground c.args.text.now c.args.cursor.at.start _ c.requires.is_token, forward c.args.cursor.ground c.args.text.now c.args.cursor.at.start _ c.requires.is_token (λ q. omega (arith, c.if-token-eq-NAME.true)))), c.requires.ready.source), name_filled c.args.cursor.ground c.args.text.now c.args.cursor.at.start _ c.requires.is_token c.if-token-eq-NAME.true)

pub named_atom-requires : goal.named_atom-requires
named_atom-requires c =
    record { ready = rw (c.onward-behind.ensures, c.past.ensures) (ready_named c.args.program.now c.args.output.now c.args.text.now c.args.names.now c.args.variables.now c.args.cursor c.requires.ready _ c.requires.is_token c.if-token-eq-NAME.true _ _ c.name_number-number.ensures); small = interned_below _ _ _ _ _ _ c.name_number-number.ensures; bytes = _; stands = grown_coded_name _ _ _ _ c.name_number-number.ensures.1 }

pub returns-then-token-eq-NAME : goal.returns-then-token-eq-NAME
returns-then-token-eq-NAME c =
    atom_goes c.args.program.now c.args.output.now c.args.text.now c.args.names.now c.args.variables.now c.args.cursor c.requires.ready _ c.requires.is_token c.if-token-eq-NAME.true _ _ c.name_number-number.ensures c.in_ok-fits_word.ensures.0 _ _ _ c.in_ok-fits_word.ensures.1 (rw (c.onward-behind.ensures, c.past.ensures) at c.named_atom.ensures)

pub returns-then-token-ne-MINUS : goal.returns-then-token-ne-MINUS
returns-then-token-ne-MINUS c =
    atom_wrong c.args.cursor.ground c.args.cursor.over c.args.text.now c.args.cursor.at.start _ c.requires.is_token _ c.if-token-eq-NAME.false c.if-token-ne-MINUS.true

pub returns-then-cursor : goal.returns-then-cursor
returns-then-cursor c =
    signed_over c.args.cursor.ground c.args.cursor.over c.args.text.now c.args.cursor.at.start _ c.requires.is_token _ c.if-token-ne-MINUS.false c.if-cursor.true

pub minus_atom-requires : goal.minus_atom-requires
minus_atom-requires c =
    rw (c.onward-behind.ensures, c.past.ensures) (ready_behind c.args.program.now c.args.output.now c.args.text.now c.args.names.now c.args.variables.now c.args.cursor c.requires.ready _ c.requires.is_token 10 c.if-token-ne-MINUS.false (λ z. omega arith))

pub returns : goal.returns
returns c =
    signed_goes c.args.program.now c.args.output.now c.args.text.now c.args.names.now c.args.variables.now c.args.cursor c.requires.ready _ c.requires.is_token c.if-token-ne-MINUS.false c.if-cursor.false _ _ _ (rw (c.onward-behind.ensures, c.past.ensures) at c.minus_atom.ensures)
