-- `line::line_at` meets its contract: where there is a line it ends inside the text. Assumes nothing.
use mathlib.Core.Path.{sym, ◌∙◌}
use borrow.Author.Tests.{ltb-true}
use borrow.Author.Rules.{rules}
use Rattle.report.proofs.LineList.{end_inside}
use Rattle.report.proofs.line.line_at.Goals as goal

pub slice_bounds-result-end-2 : goal.slice_bounds-result-end-2
slice_bounds-result-end-2 c =
    let inside = end_inside c.args.text.now c.args.at (ltb-true _ _ (sym c.has_line.ensures ∙ c.if-not-has_line.false)) in
    search rules
