-- `next` of `Lines` meets its contract: it hands out the line that it stands at, and one line fewer is left. Assumes nothing.
use mathlib.Core.Path.{sym, ap, ◌∙◌}
use borrow.Author.Tests.{ltb-true}
use Rattle.report.specs.Reader.{reader_at}
use Rattle.report.proofs.HandedOut.{stands_behind, fewer_left}
use Rattle.report.proofs.reader.LinesIterator.next.Goals as goal

pub returns-clause-steps : goal.returns-clause-steps
returns-clause-steps c = (
  sym c.has_line.ensures ∙ c.if-not-has_line.false,
  c.line_at-line.ensures,
  ap (reader_at c.args.self.now.text) (stands_behind _ _ _ c.line_at-line.ensures c.next_line-self.ensures),
)

pub returns-clause-goes : goal.returns-clause-goes
returns-clause-goes c =
    let here = ltb-true _ _ (sym c.has_line.ensures ∙ c.if-not-has_line.false) in
    let fewer = fewer_left _ _ here (stands_behind _ _ _ c.line_at-line.ensures c.next_line-self.ensures) in
    record { on = λ _. (tt, tt, fewer); keeps = tt; rests = λ _. tt }
