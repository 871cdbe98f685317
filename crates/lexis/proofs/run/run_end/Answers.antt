-- `run::run_end` meets its contract. The invariant: what is left of the run from here, added to here, is where the run ends.
-- Assumes nothing.
use native.Mathlib.Omega.{arith}
use mathlib.Core.Path.{sym, ◌∙◌}
use borrow.Author.Tests.{not-true, not-false}
use Rattle.lexis.specs.Run.{goes_on}
use Rattle.texts.proofs.Prefix.{prefix_end, prefix_stop, prefix_on}
use Rattle.lexis.proofs.run.run_end.Goals as goal

pub returns-then-not-goes_on : goal.returns-then-not-goes_on
returns-then-not-goes_on c =
    sym
    (c.loop-end.invariant
    ∙ prefix_stop _ _ _ c.loop-end-test.true (sym c.goes_on.ensures ∙ not-true _ c.if-not-goes_on.true-raw))

pub loop-end-preserved : goal.loop-end-preserved
loop-end-preserved c =
    c.loop-end.invariant
    ∙ prefix_on _ _ _ c.loop-end-test.true (sym c.goes_on.ensures ∙ not-false _ c.if-not-goes_on.false-raw)

-- of a place past the text's end the run is empty, and behind the last byte there is nothing more
pub returns : goal.returns
returns c = grind (arith, prefix_end (goes_on c.args.run) c.args.text.now c.args.at, prefix_end (goes_on c.args.run) _ _ c.loop-end-test.false, c.loop-end.invariant)
