-- `answer` meets its contract: the first of the lines behind ANSWER holds the facts, and the others begin behind it.
-- Assumes nothing.
use mathlib.Core.Path.{sym, ap, ap₂, ◌∙◌}
use borrow.Author.Tests.{ltb-true, ltb-false}
use Rattle.report.specs.declared.word.Word.TheVariants.{Answer}
use Rattle.report.specs.Report.{refused, found}
use Rattle.report.proofs.Located.{its_place, behind_its}
use Rattle.report.proofs.Reporting.{answer_alone, answer_facts}
use Rattle.report.proofs.answer.Goals as goal

pub returns-then-not-has_line : goal.returns-then-not-has_line
returns-then-not-has_line c =
    let left = ltb-false _ _ (sym c.has_line.ensures ∙ c.if-not-has_line.true) in
    c.misplaced.ensures ∙ ap refused c.with_len.ensures ∙ sym (answer_alone _ _ c.requires left)

pub line_behind-requires : goal.line_behind-requires
line_behind-requires c =
    its_place _ _ _ c.requires c.line_at-line.ensures _ c.with_len-facts.ensures

pub returns : goal.returns
returns c =
    let here = ltb-true _ _ (sym c.has_line.ensures ∙ c.if-not-has_line.false) in
    let next = behind_its _ _ _ c.requires c.line_at-line.ensures _ c.with_len-facts.ensures _ c.line_behind.ensures in
    ap₂ (found Answer) c.with_len-facts.ensures next
    ∙ sym (answer_facts _ _ c.requires here _ c.line_at-line.ensures)
