-- `line::read_line` meets its contract: each answer of `fact_at` has its law. Assumes nothing.
use mathlib.Core.Path.{refl}
use borrow.Author.Rules.{rules}
use Rattle.std.proofs.lemmas.Result.{err_from_is_err_and}
use Rattle.factline.proofs.LineLaws.{seen, going_start, going_ready, line_stops, line_ends, puttable, going_on}
use Rattle.factline.proofs.line.read_line.Goals as goal

pub loop-fact-init : goal.loop-fact-init
loop-fact-init c =
    going_start _ _ _ _ _ _ _ _ _ c.requires.room refl

pub fact_at-requires : goal.fact_at-requires
fact_at-requires c =
    rw c.onward-here.ensures (record { ready = going_ready c.args.program.now c.args.output.now c.args.line _ c.part-text.ensures _ _ _ _ c.requires _ _ _ _ _ _ _ c.loop-fact.invariant _ _; on_line = refl; none_met = refl })

pub returns-in_err-fact : goal.returns-in_err-fact
returns-in_err-fact c =
    let p = err_from_is_err_and c.from_residual.result c.from_residual.ensures.1 in
    rw (p.1, p.2) (line_stops c.args.program.now c.args.output.now c.args.line _ c.part-text.ensures _ _ _ _ c.requires _ _ _ _ _ _ _ c.loop-fact.invariant _ (rw c.onward-here.ensures at c.in_err-fact.ensures))

pub returns-in_default : goal.returns-in_default
returns-in_default c =
    line_ends c.args.program.now c.args.output.now c.args.line _ c.part-text.ensures _ _ _ _ c.requires _ _ _ _ _ _ _ c.loop-fact.invariant _ (seen c.args.program.now c.args.output.now c.part-text.result.now c.loop-fact.names c.onward-here.ensures c.in_default.is _ c.in_ok-fact.ensures)

pub put_fact-requires : goal.put_fact-requires
put_fact-requires c =
    puttable c.args.program.now c.args.output.now c.args.line _ c.part-text.ensures _ _ _ _ c.requires _ _ _ _ _ _ _ c.loop-fact.invariant _ _ (seen c.args.program.now c.args.output.now c.part-text.result.now c.loop-fact.names c.onward-here.ensures c.in-Some.is _ c.in_ok-fact.ensures)

pub loop-fact-preserved : goal.loop-fact-preserved
loop-fact-preserved c =
    going_on c.args.program.now c.args.output.now c.args.line _ c.part-text.ensures _ _ _ _ c.requires _ _ _ _ _ _ _ c.loop-fact.invariant _ _ (seen c.args.program.now c.args.output.now c.part-text.result.now c.loop-fact.names c.onward-here.ensures c.in-Some.is _ c.in_ok-fact.ensures) _ _ _ c.put_fact.ensures _ (search (rules, c.loop-fact.invariant.long)) (search (rules, c.loop-fact.invariant.room_for_variables))
