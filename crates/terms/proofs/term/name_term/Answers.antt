-- `term::name_term` meets its contract. Assumes nothing.
use native.Mathlib.Omega.{arith}
use Rattle.syntax.proofs.Readings.{passed_up}
use Rattle.rows.proofs.Growth.{room_less}
use Rattle.names.proofs.Numbered.{interned_below}
use Rattle.syntax.proofs.Tokens.{within, forward, past_countable}
use Rattle.terms.proofs.TermLaws.{name_stops, name_goes, name_filled}
use Rattle.terms.proofs.term.name_term.Goals as goal

pub returns-in_err-fits_word : goal.returns-in_err-fits_word
returns-in_err-fits_word c =
    λ variables ready. rw (passed_up c.from_residual.ensures, c.in_err-fits_word.ensures.0) (name_stops c.args.program.now c.args.output.now c.args.text.now c.args.names.now variables c.args.cursor ready _ c.requires.ready.is_token c.requires.is_kind c.in_err-fits_word.ensures.1)

pub name_number-number-requires : goal.name_number-number-requires
name_number-number-requires c =
    ((room_less _ _ 1 c.requires.ready.ready.room (omega (arith, within c.args.cursor.ground c.args.text.now c.args.cursor.at.start _ c.requires.ready.is_token, forward c.args.cursor.ground c.args.text.now c.args.cursor.at.start _ c.requires.ready.is_token (λ q. omega (arith, c.requires.is_kind)))), c.requires.ready.ready.source), name_filled c.args.cursor.ground c.args.text.now c.args.cursor.at.start _ c.requires.ready.is_token c.requires.is_kind)

pub overflow_add-result : goal.overflow_add-result
overflow_add-result c = omega (arith, interned_below _ _ _ _ _ _ c.name_number-number.ensures)

pub past-requires : goal.past-requires
past-requires c =
    past_countable c.args.cursor.ground c.args.text.now c.args.cursor.at.start _ c.requires.ready.is_token (omega arith)

pub returns : goal.returns
returns c =
    λ variables ready. rw c.past.ensures (name_goes c.args.program.now c.args.output.now c.args.text.now c.args.names.now variables c.args.cursor ready _ c.requires.ready.is_token c.requires.is_kind c.in_ok-fits_word.ensures.0 c.in_ok-fits_word.ensures.1 _ _ c.name_number-number.ensures)
