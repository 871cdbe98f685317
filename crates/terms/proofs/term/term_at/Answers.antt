-- `term::term_at` meets its contract. Assumes nothing.
use native.Mathlib.Omega.{arith}
use Rattle.texts.proofs.PlaceTables.{storable_countable}
use Rattle.terms.proofs.TermLaws.{puttable, number_goes, nameless, bar_wrong}
use Rattle.terms.proofs.term.term_at.Goals as goal

pub number_term-requires : goal.number_term-requires
number_term-requires c =
    storable_countable _ (puttable c.args.program.now c.args.output.now c.args.text.now c.args.names.now c.args.variables.now c.args.cursor c.requires.ready _ c.requires.is_token).fits

pub returns-then-token-eq-NUMBER : goal.returns-then-token-eq-NUMBER
returns-then-token-eq-NUMBER c =
    nameless c.args.program.now c.args.output.now c.args.text.now c.args.names.now c.args.variables.now c.args.cursor c.requires.ready _ _ (number_goes c.args.text.now c.args.variables.now c.args.cursor c.requires.ready.few _ c.requires.is_token c.if-token-eq-NUMBER.true _ c.number_term.ensures)

pub returns-then-token-eq-BAR : goal.returns-then-token-eq-BAR
returns-then-token-eq-BAR c =
    bar_wrong c.args.program.now c.args.output.now c.args.text.now c.args.names.now c.args.variables.now c.args.cursor c.requires.ready _ c.requires.is_token c.if-token-eq-BAR.true

pub nameless_term-requires : goal.nameless_term-requires
nameless_term-requires c =
    record { puttable = puttable c.args.program.now c.args.output.now c.args.text.now c.args.names.now c.args.variables.now c.args.cursor c.requires.ready _ c.requires.is_token; is_token = c.requires.is_token; no_name = c.if-token-eq-NAME.false; no_string = λ e. omega (arith, e, c.if-token-gt-STRAY.false); no_number = c.if-token-eq-NUMBER.false }

pub returns : goal.returns
returns c =
    nameless c.args.program.now c.args.output.now c.args.text.now c.args.names.now c.args.variables.now c.args.cursor c.requires.ready _ _ c.nameless_term.ensures
