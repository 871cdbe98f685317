-- `from_one` meets its contract. The invariant: the positions before this one are counted from 1, and behind them stand zeros.
-- Assumes nothing.
use Rattle.verdict.specs.Told.{FromOne}
use Rattle.verdict.proofs.from_one.Given as goal

abbrev pub invariant-loop-i : goal.invariant-loop-i
invariant-loop-i l = FromOne l.i l.positions l.counted
