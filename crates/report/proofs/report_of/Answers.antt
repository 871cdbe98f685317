-- `report_of` meets its contract: by the word that the line starts with. Assumes nothing.
use mathlib.Core.Path.{refl, sym, ◌∙◌}
use Rattle.report.specs.declared.word.Word.TheVariants.{Answer, Inconsistent, Unknown}
use Rattle.report.proofs.Reporting.{line_whole, next_stands, report_stray, report_says, report_claims}
use Rattle.report.proofs.report_of.Goals as goal

pub line_behind-next-requires : goal.line_behind-next-requires
line_behind-next-requires c = line_whole _ _ c.requires

pub answer-requires : goal.answer-requires
answer-requires c = next_stands _ _ c.line_behind-next.ensures

pub returns-then-starts_with : goal.returns-then-starts_with
returns-then-starts_with c =
    let word = sym c.starts_with.ensures ∙ c.if-starts_with.true in
    report_says _ _ c.requires _ c.part-bytes.ensures _ c.line_behind-next.ensures Answer word _ c.answer.ensures

pub returns-then-starts_with-2 : goal.returns-then-starts_with-2
returns-then-starts_with-2 c =
    let word = sym c.starts_with-2.ensures ∙ c.if-starts_with-2.true in
    report_claims _ _ c.requires _ c.part-bytes.ensures _ c.line_behind-next.ensures Inconsistent word (λ ls. refl) _ c.claim.ensures

pub returns-then-starts_with-3 : goal.returns-then-starts_with-3
returns-then-starts_with-3 c =
    let word = sym c.starts_with-3.ensures ∙ c.if-starts_with-3.true in
    report_claims _ _ c.requires _ c.part-bytes.ensures _ c.line_behind-next.ensures Unknown word (λ ls. refl) _ c.claim-then-starts_with-3.ensures

pub returns : goal.returns
returns c =
    let no_answer = sym c.starts_with.ensures ∙ c.if-starts_with.false in
    let no-inconsistent = sym c.starts_with-2.ensures ∙ c.if-starts_with-2.false in
    let no-unknown = sym c.starts_with-3.ensures ∙ c.if-starts_with-3.false in
    report_stray _ _ c.requires _ c.part-bytes.ensures no_answer no-inconsistent no-unknown _ c.misplaced.ensures
