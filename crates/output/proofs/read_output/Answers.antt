-- `read_output` meets its contract: stage by stage, each with its own law. Assumes nothing.
use native.Mathlib.Omega.{arith}
use Rattle.std.proofs.lemmas.Result.{err_from_is_err_and}
use Rattle.report.proofs.Inside.{reported_inside}
use Rattle.report.specs.declared.word.Word.TheVariants.{Answer, Inconsistent, Unknown}
use Rattle.output.specs.Tables.{tables}
use Rattle.output.proofs.Stages.{too_long, opening_refused, goes_behind, line_fillable, line_straight, line_countable, answer_closed, closing_none, closing_unknown}
use Rattle.output.proofs.read_output.Goals as goal

pub returns-then-output-gt-MOST_TEXT : goal.returns-then-output-gt-MOST_TEXT
returns-then-output-gt-MOST_TEXT c = too_long _ _ _ _ c.if-output-gt-MOST_TEXT.true

pub returns-in_err-report : goal.returns-in_err-report
returns-in_err-report c =
    let p = err_from_is_err_and c.from_residual.result c.from_residual.ensures.1 in
    let t = tables c.args.names.now c.args.facts.now c.args.predicates.now c.args.starts.now c.args.lengths.now in
    rw (p.1, p.2) (opening_refused c.args.program.now c.args.output.now t t (λ h. omega arith) c.in_err-report.field-0.0 c.in_err-report.ensures)

pub read_line-read-requires : goal.read_line-read-requires
read_line-read-requires c =
    line_fillable _ _ (tables c.args.names.now c.args.facts.now c.args.predicates.now c.args.starts.now c.args.lengths.now) (λ h. omega arith) _ c.in_ok-report.ensures c.requires

pub of_line-requires : goal.of_line-requires
of_line-requires c =
    let t = tables c.args.names.now c.args.facts.now c.args.predicates.now c.args.starts.now c.args.lengths.now in
    let u = tables c.read_line-read.new.names c.read_line-read.new.facts c.args.predicates.now c.read_line-read.new.starts c.read_line-read.new.lengths in
    line_countable c.args.program.now c.args.output.now t u c.in_ok-report.report.facts (line_straight _ _ c.in_ok-report.ensures) (line_fillable _ _ t (λ h. omega arith) _ c.in_ok-report.ensures c.requires) c.read_line-read.result c.read_line-read.ensures

pub closed-requires : goal.closed-requires
closed-requires c = (reported_inside _ c.in_ok-report.ensures).next_stands

pub closed-requires-in-Inconsistent : goal.closed-requires-in-Inconsistent
closed-requires-in-Inconsistent c = (reported_inside _ c.in_ok-report.ensures).next_stands

pub closed-requires-in-Unknown : goal.closed-requires-in-Unknown
closed-requires-in-Unknown c = (reported_inside _ c.in_ok-report.ensures).next_stands

pub returns-in-Answer : goal.returns-in-Answer
returns-in-Answer c =
    let t = tables c.args.names.now c.args.facts.now c.args.predicates.now c.args.starts.now c.args.lengths.now in
    let u = tables c.read_line-read.new.names c.read_line-read.new.facts c.put_predicates.new.predicates c.read_line-read.new.starts c.read_line-read.new.lengths in
    goes_behind c.args.program.now c.args.output.now t u (λ h. omega arith) _ c.in_ok-report.ensures Answer c.in-Answer.is _
    (answer_closed c.args.program.now c.args.output.now t u c.in_ok-report.report.facts (line_straight _ _ c.in_ok-report.ensures) (line_fillable _ _ t (λ h. omega arith) _ c.in_ok-report.ensures c.requires) c.read_line-read.result c.read_line-read.ensures (rw c.unwrap_or.ensures at c.put_predicates.ensures) _ c.of_line.result c.of_line.ensures _ c.closed.ensures)

pub returns-in-Inconsistent : goal.returns-in-Inconsistent
returns-in-Inconsistent c =
    goes_behind _ _ _ _ (λ h. omega arith) _ c.in_ok-report.ensures Inconsistent c.in-Inconsistent.is _ (closing_none _ _ _ _ _ _ c.reported.ensures _ c.closed-in-Inconsistent.ensures)

pub returns-in-Unknown : goal.returns-in-Unknown
returns-in-Unknown c =
    goes_behind _ _ _ _ (λ h. omega arith) _ c.in_ok-report.ensures Unknown c.in-Unknown.is _ (closing_unknown _ _ _ _ _ _ c.reported-in-Unknown.ensures _ c.closed-in-Unknown.ensures)
