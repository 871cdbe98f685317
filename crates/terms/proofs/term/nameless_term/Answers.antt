-- `term::nameless_term` meets its contract. Assumes nothing.
use Rattle.terms.proofs.TermLaws.{minus_goes, minus_over, ground_wrong, free_wrong}
use native.Mathlib.Omega.{arith}
use Rattle.syntax.proofs.Tokens.{past_here}
use Rattle.terms.proofs.term.nameless_term.Goals as goal

pub returns-then-over : goal.returns-then-over
returns-then-over c =
    minus_over c.args.text.now c.args.variables.now c.args.cursor c.requires.puttable.few _ c.requires.is_token c.if-token-eq-MINUS.true c.if-over.true

pub negative_number-requires : goal.negative_number-requires
negative_number-requires c =
    rw c.past.ensures (past_here c.args.cursor.ground c.args.text.now c.args.cursor.at.start _ c.requires.is_token (λ q. absurd (let z : ⊥ = omega (arith, c.if-token-eq-MINUS.true) in z)))

pub returns-then-token-eq-MINUS : goal.returns-then-token-eq-MINUS
returns-then-token-eq-MINUS c =
    minus_goes c.args.text.now c.args.variables.now c.args.cursor c.requires.puttable.few _ c.requires.is_token c.if-token-eq-MINUS.true c.if-over.false _ (rw c.past.ensures at c.negative_number.ensures)

pub returns-then-cursor : goal.returns-then-cursor
returns-then-cursor c =
    ground_wrong c.args.text.now c.args.variables.now c.args.cursor c.requires.puttable.few _ c.requires.is_token c.requires.no_name c.requires.no_string c.requires.no_number c.if-token-eq-MINUS.false c.if-cursor.true

pub returns : goal.returns
returns c =
    free_wrong c.args.text.now c.args.variables.now c.args.cursor c.requires.puttable.few _ c.requires.is_token c.requires.no_name c.requires.no_string c.requires.no_number c.if-token-eq-MINUS.false c.if-cursor.false c.if-token-eq-VARIABLE.false c.if-token-eq-ANONYMOUS.false
