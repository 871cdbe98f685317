-- `term::string_term` meets its contract. Assumes nothing.
use native.Mathlib.Omega.{arith}
use Rattle.syntax.proofs.Readings.{passed_up}
use Rattle.names.proofs.Numbered.{interned_below}
use Rattle.rows.proofs.Growth.{room_less}
use Rattle.syntax.proofs.Tokens.{within, forward, past_countable}
use Rattle.terms.proofs.TermLaws.{string_quotes, part_filled, string_stops, string_goes}
use Rattle.terms.proofs.term.string_term.Goals as goal

pub fits_string-requires : goal.fits_string-requires
fits_string-requires c =
    string_quotes c.args.cursor.ground c.args.text.now c.args.cursor.at.start _ c.requires.ready.is_token c.requires.is_kind

pub returns-in_err-fits_string : goal.returns-in_err-fits_string
returns-in_err-fits_string c =
    λ variables ready. rw (passed_up c.from_residual.ensures, c.in_err-fits_string.ensures.0) (string_stops c.args.program.now c.args.output.now c.args.text.now c.args.names.now variables c.args.cursor ready _ c.requires.ready.is_token c.requires.is_kind c.in_err-fits_string.ensures.1)

pub overflow_sub-token : goal.overflow_sub-token
overflow_sub-token c =
    omega (arith, string_quotes c.args.cursor.ground c.args.text.now c.args.cursor.at.start _ c.requires.ready.is_token c.requires.is_kind)

pub name_number-number-requires : goal.name_number-number-requires
name_number-number-requires c =
    let quotes = string_quotes c.args.cursor.ground c.args.text.now c.args.cursor.at.start _ c.requires.ready.is_token c.requires.is_kind in
    ((room_less _ _ 1 c.requires.ready.ready.room (omega (arith, within c.args.cursor.ground c.args.text.now c.args.cursor.at.start _ c.requires.ready.is_token, forward c.args.cursor.ground c.args.text.now c.args.cursor.at.start _ c.requires.ready.is_token (λ q. omega (arith, c.requires.is_kind)))), c.requires.ready.ready.source), part_filled c.args.cursor.ground c.args.text.now c.args.cursor.at.start _ c.requires.ready.is_token c.with_len-opened.result (rw c.with_len-opened.ensures) (rw c.with_len-opened.ensures (omega (arith, quotes))) (rw c.with_len-opened.ensures (omega arith)))

pub overflow_add-result : goal.overflow_add-result
overflow_add-result c = omega (arith, interned_below _ _ _ _ _ _ c.name_number-number.ensures)

pub past-requires : goal.past-requires
past-requires c =
    past_countable c.args.cursor.ground c.args.text.now c.args.cursor.at.start _ c.requires.ready.is_token (omega arith)

pub returns : goal.returns
returns c =
    λ variables ready. rw c.past.ensures (string_goes c.args.program.now c.args.output.now c.args.text.now c.args.names.now variables c.args.cursor ready _ c.requires.ready.is_token c.requires.is_kind c.in_ok-fits_string.ensures.0 c.in_ok-fits_string.ensures.1 _ _ (rw c.with_len-opened.ensures at c.name_number-number.ensures))
