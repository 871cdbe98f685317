-- `literal::name_literal` meets its contract. Assumes nothing.
use native.Mathlib.Omega.{arith}
use mathlib.Core.Bool.{false}
use mathlib.Core.Path.{sym as inv, ◌∙◌, refl}
use Rattle.syntax.proofs.Readings.{passed_up}
use Rattle.rows.proofs.Growth.{room_less}
use Rattle.names.proofs.Numbered.{grown_coded_name, interned_below}
use Rattle.rows.proofs.Terms.{name_coded}
use Rattle.syntax.proofs.Tokens.{within, forward, past_here, past_countable}
use Rattle.terms.proofs.TermLaws.{name_filled}
use Rattle.literals.proofs.LiteralLaws.{name_stops, ready_name, name_compared, name_atom_stops, name_atom_goes}
use Rattle.literals.proofs.literal.name_literal.Goals as goal

pub returns-in_err-fits_word : goal.returns-in_err-fits_word
returns-in_err-fits_word c =
    rw (passed_up c.from_residual.ensures, c.in_err-fits_word.ensures.0) (name_stops c.args.program.now c.args.output.now c.args.names.now c.args.variables.now c.args.cursor c.requires.ready _ c.requires.is_token c.requires.is_name c.in_err-fits_word.ensures.1)

pub name_number-number-requires : goal.name_number-number-requires
name_number-number-requires c =
    ((room_less _ _ 1 c.requires.ready.ready.room (omega (arith, within false c.args.program.now c.args.cursor.at.start _ c.requires.is_token, forward false c.args.program.now c.args.cursor.at.start _ c.requires.is_token (λ q. omega (arith, c.requires.is_name)))), c.requires.ready.ready.source), name_filled false c.args.program.now c.args.cursor.at.start _ c.requires.is_token c.requires.is_name)

pub past-requires : goal.past-requires
past-requires c =
    past_countable false c.args.program.now c.args.cursor.at.start _ c.requires.is_token (omega arith)

pub token_at-next-requires : goal.token_at-next-requires
token_at-next-requires c =
    rw (c.onward-behind.ensures, c.past.ensures) (past_here false c.args.program.now c.args.cursor.at.start _ c.requires.is_token (λ q. refl))

pub overflow_add-left : goal.overflow_add-left
overflow_add-left c =
    omega (arith, interned_below _ _ _ _ _ _ c.name_number-number.ensures)

pub side_at-requires : goal.side_at-requires
side_at-requires c =
    record { behind = rw (c.onward-behind.ensures, c.past.ensures) (ready_name c.args.program.now c.args.output.now c.args.names.now c.args.variables.now c.args.cursor c.requires.ready _ c.requires.is_token c.requires.is_name _ _ c.name_number-number.ensures); term = _; stands = (name_coded _ _ _ _ _ _ c.name_number-number.ensures).coded }

pub returns-then-is_comparison : goal.returns-then-is_comparison
returns-then-is_comparison c =
    name_compared c.args.program.now c.args.output.now c.args.names.now c.args.variables.now c.args.cursor c.requires.ready _ c.requires.is_token c.requires.is_name c.in_ok-fits_word.ensures.0 c.in_ok-fits_word.ensures.1 _ (rw (c.onward-behind.ensures, c.past.ensures) at c.token_at-next.ensures) _ _ c.name_number-number.ensures (inv c.is_comparison.ensures ∙ c.if-is_comparison.true) _ _ _ (rw (c.onward-behind.ensures, c.past.ensures) at c.side_at.ensures)

pub named_atom-requires : goal.named_atom-requires
named_atom-requires c =
    record { ready = rw (c.onward-behind.ensures, c.past.ensures) (ready_name c.args.program.now c.args.output.now c.args.names.now c.args.variables.now c.args.cursor c.requires.ready _ c.requires.is_token c.requires.is_name _ _ c.name_number-number.ensures).ready; small = interned_below _ _ _ _ _ _ c.name_number-number.ensures; bytes = _; stands = grown_coded_name _ _ _ _ c.name_number-number.ensures.1 }

pub returns-in_err-atom : goal.returns-in_err-atom
returns-in_err-atom c =
    rw (passed_up c.from_residual-in_err-atom.ensures) (name_atom_stops c.args.program.now c.args.output.now c.args.names.now c.args.variables.now c.args.cursor c.requires.ready _ c.requires.is_token c.requires.is_name c.in_ok-fits_word.ensures.0 c.in_ok-fits_word.ensures.1 _ (rw (c.onward-behind.ensures, c.past.ensures) at c.token_at-next.ensures) _ _ c.name_number-number.ensures (inv c.is_comparison.ensures ∙ c.if-is_comparison.false) _ (rw (c.onward-behind.ensures, c.past.ensures) at c.in_err-atom.ensures))

pub returns : goal.returns
returns c =
    rw c.of_atom.ensures (name_atom_goes c.args.program.now c.args.output.now c.args.names.now c.args.variables.now c.args.cursor c.requires.ready _ c.requires.is_token c.requires.is_name c.in_ok-fits_word.ensures.0 c.in_ok-fits_word.ensures.1 _ (rw (c.onward-behind.ensures, c.past.ensures) at c.token_at-next.ensures) _ _ c.name_number-number.ensures (inv c.is_comparison.ensures ∙ c.if-is_comparison.false) _ _ _ (rw (c.onward-behind.ensures, c.past.ensures) at c.in_ok-atom.ensures))
