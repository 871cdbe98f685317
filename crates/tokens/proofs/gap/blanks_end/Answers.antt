-- `gap::blanks_end` meets its contract. The invariant: what is left of the blanks from here, added to here, is where they end; and the line and
-- the column are those of here. Assumes nothing.
use native.Mathlib.Omega.{arith}
use mathlib.Core.Path.{refl, sym, ◌∙◌}
use borrow.Author.Tests.{not-true, not-false}
use Rattle.texts.proofs.Prefix.{prefix_end, prefix_stop, prefix_on}
use Rattle.texts.proofs.Counting.{countable, behind_stands, behind_start}
use Rattle.tokens.proofs.gap.blanks_end.Goals as goal

pub loop-here-init : goal.loop-here-init
loop-here-init c = record { here = refl; left = refl; stands = c.requires }

pub returns-then-not-is_blank : goal.returns-then-not-is_blank
returns-then-not-is_blank c =
    let i = c.loop-here.invariant in
    (rw i.here (sym (rw i.here at i.left ∙ prefix_stop _ _ _ c.loop-here-test.true (sym c.is_blank.ensures ∙ not-true _ c.if-not-is_blank.true-raw))), i.stands)

pub behind-end-requires : goal.behind-end-requires
behind-end-requires c = countable _ _ c.loop-here.invariant.stands _ (omega arith) (omega (arith, c.loop-here.invariant.here)) (omega arith)

pub loop-here-preserved : goal.loop-here-preserved
loop-here-preserved c =
    let i = c.loop-here.invariant in
    let passes = sym c.is_blank.ensures ∙ not-false _ c.if-not-is_blank.false-raw in
    rw c.behind-end.ensures
    (record {
      here = rw (behind_start c.loop-here.end _, i.here);
      left = rw (behind_start c.loop-here.end _, i.here) (rw i.here at i.left ∙ prefix_on _ _ _ c.loop-here-test.true passes);
      stands = rw (← i.here) (behind_stands _ _ i.stands (rw i.here c.loop-here-test.true));
    })

pub returns : goal.returns
returns c =
    let i = c.loop-here.invariant in
    (sym (i.left ∙ prefix_end _ _ _ (omega (arith, i.here))), i.stands)
