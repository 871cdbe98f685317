-- `gap::gap_end` meets its contract. The invariant: what is left of the gap from here, added to here, is where the gap ends; and the line and
-- the column are those of here. The measure is what is left of the text: a comment has a byte. Assumes nothing.
use native.Mathlib.Omega.{arith}
use mathlib.Core.Path.{◌≡◌, refl, sym, ap, ◌∙◌}
use mathlib.Core.Bool.{true, false}
use borrow.Author.Tests.{not-true, not-false}
use Rattle.texts.specs.declared.place.Place.{Place}
use Rattle.tokens.proofs.Gaps.{gap_stop, gap_comment, comment_inside, line_stands, blanks_stand, run_countable}
use Rattle.tokens.proofs.gap.gap_end.Goals as goal

pub along-requires : goal.along-requires
along-requires c = run_countable _ _ c.requires _ _ c.run_end.ensures (omega arith)

pub returns-then-not-program : goal.returns-then-not-program
returns-then-not-program c = rw c.along.ensures (rw (not-true c.args.program c.if-not-program.true-raw) (gap_stop false _ _ _ c.run_end.ensures refl), blanks_stand _ _ c.requires _ c.run_end.ensures)

pub loop-end-init : goal.loop-end-init
loop-end-init c = (refl, c.requires)

pub blanks_end-end-requires : goal.blanks_end-end-requires
blanks_end-end-requires c = c.loop-end.invariant.1

pub returns-then-not-starts_comment : goal.returns-then-not-starts_comment
returns-then-not-starts_comment c =
    (rw (not-false c.args.program c.if-not-program.false-raw) (gap_stop true _ _ _ c.blanks_end-end.ensures.0 (sym c.starts_comment.ensures ∙ not-true _ c.if-not-starts_comment.true-raw) ∙ sym c.loop-end.invariant.0), c.blanks_end-end.ensures.1)

pub along-end-requires : goal.along-end-requires
along-end-requires c = run_countable _ _ c.blanks_end-end.ensures.1 _ _ c.run_end-in-loop-end.ensures (omega arith)

pub loop-end-smaller : goal.loop-end-smaller
loop-end-smaller c =
    let i = comment_inside true c.args.text.now _ _ c.blanks_end-end.ensures.0 (sym c.starts_comment.ensures ∙ not-false _ c.if-not-starts_comment.false-raw) _ c.run_end-in-loop-end.ensures in
    let e : c.along-end.result.start ≡ c.run_end-in-loop-end.result = ap (λ (p : Place). p.start) c.along-end.ensures in
    omega arith

pub loop-end-preserved : goal.loop-end-preserved
loop-end-preserved c =
    rw c.along-end.ensures
    (c.loop-end.invariant.0 ∙ gap_comment true _ _ _ c.blanks_end-end.ensures.0 (sym c.starts_comment.ensures ∙ not-false _ c.if-not-starts_comment.false-raw) _ c.run_end-in-loop-end.ensures, line_stands _ _ c.blanks_end-end.ensures.1 _ c.run_end-in-loop-end.ensures)
