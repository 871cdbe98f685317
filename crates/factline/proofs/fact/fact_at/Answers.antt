-- `fact::fact_at` meets its contract. Assumes nothing.
use mathlib.Core.Bool.{true}
use native.Mathlib.Omega.{arith}
use Rattle.std.specs.Prelude.{Ok}
use Rattle.std.proofs.lemmas.Result.{err_from_is_err_and}
use Rattle.syntax.proofs.Tokens.{past_countable}
use Rattle.atoms.proofs.AtomLaws.{ready_head}
use Rattle.factline.proofs.FactLaws.{atom_on_line, stopped_on_line, fact_ended, fact_if, fact_stops, fact_wrong, fact_goes}
use Rattle.factline.proofs.fact.fact_at.Goals as goal

pub returns-then-token-eq-END : goal.returns-then-token-eq-END
returns-then-token-eq-END c =
    fact_ended c.args.program.now c.args.output.now c.args.text.now c.args.names.now c.args.variables.now c.args.cursor.base c.args.cursor.at c.args.cursor.over _ c.token_at-token.ensures c.if-token-eq-END.true

pub returns-then-token-eq-IF : goal.returns-then-token-eq-IF
returns-then-token-eq-IF c =
    fact_if c.args.program.now c.args.output.now c.args.text.now c.args.names.now c.args.variables.now c.args.cursor.base c.args.cursor.at c.args.cursor.over _ c.token_at-token.ensures c.if-token-eq-IF.true

pub atom_at-requires : goal.atom_at-requires
atom_at-requires c =
    ready_head c.args.program.now c.args.output.now c.args.text.now c.args.names.now c.args.variables.now c.args.cursor c.requires.ready true c.requires.on_line _ c.token_at-token.ensures

pub returns-in_err-read : goal.returns-in_err-read
returns-in_err-read c =
    let p = err_from_is_err_and c.from_residual.result c.from_residual.ensures.1 in
    rw (p.1, p.2)
    (fact_stops c.args.program.now c.args.output.now c.args.text.now c.args.names.now c.args.variables.now c.args.cursor.base c.args.cursor.at c.args.cursor.over _ c.token_at-token.ensures c.if-token-eq-IF.false c.if-token-eq-END.false _
    (stopped_on_line c.args.program.now c.args.output.now c.args.text.now c.args.names.now c.args.variables.now c.args.cursor c.requires _ c.in_err-read.ensures))

pub token_at-dot-requires : goal.token_at-dot-requires
token_at-dot-requires c = c.in_ok-read.ensures.stands

pub returns-then-dot-ne-DOT : goal.returns-then-dot-ne-DOT
returns-then-dot-ne-DOT c =
    fact_wrong c.args.program.now c.args.output.now c.args.text.now c.args.names.now c.args.variables.now c.args.cursor.base c.args.cursor.at c.args.cursor.over _ c.token_at-token.ensures c.if-token-eq-IF.false c.if-token-eq-END.false _ _ _
    (atom_on_line c.args.program.now c.args.output.now c.args.text.now c.args.names.now c.args.variables.now c.args.cursor c.requires (Ok c.in_ok-read.read) _ _ c.in_ok-read.ensures)
    _ c.token_at-dot.ensures c.if-dot-ne-DOT.true

pub past-requires : goal.past-requires
past-requires c =
    past_countable true c.args.text.now _ _ c.token_at-dot.ensures (omega arith)

pub returns : goal.returns
returns c =
    rw c.past.ensures
    (fact_goes c.args.program.now c.args.output.now c.args.text.now c.args.names.now c.args.variables.now c.args.cursor.base c.args.cursor.at c.args.cursor.over _ c.token_at-token.ensures c.if-token-eq-IF.false c.if-token-eq-END.false _ _ _
    (atom_on_line c.args.program.now c.args.output.now c.args.text.now c.args.names.now c.args.variables.now c.args.cursor c.requires (Ok c.in_ok-read.read) _ _ c.in_ok-read.ensures)
    _ c.token_at-dot.ensures c.if-dot-ne-DOT.false)
