-- `from_one` meets its contract. The invariant: the positions before this one are counted from 1, and behind them stand zeros.
-- Assumes nothing.
use native.Mathlib.Omega.{arith}
use borrow.Author.Rules.{rules}
use Rattle.verdict.proofs.Counting.{counted_none, counted_more}
use Rattle.verdict.proofs.from_one.Goals as goal

pub loop-i-init : goal.loop-i-init
loop-i-init c = counted_none _ (search rules)

pub overflow_add-counted : goal.overflow_add-counted
overflow_add-counted c = let l = c.requires.1 c.loop-i.i c.loop-i-test.true in omega (arith, l)

pub loop-i-preserved : goal.loop-i-preserved
loop-i-preserved c = counted_more _ _ _ (omega (arith, c.loop-i-test.true, c.requires.0)) c.loop-i.invariant
