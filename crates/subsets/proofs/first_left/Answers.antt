-- `first_left` meets its contract. The invariant: all before `at` are ruled out. Assumes nothing.
use native.Mathlib.Omega.{arith}
use Rattle.subsets.proofs.Left.{one_more, left_here}
use Rattle.subsets.proofs.first_left.Goals as goal

pub returns-then-table-at-eq0 : goal.returns-then-table-at-eq0
returns-then-table-at-eq0 c = record { within = omega arith; before = c.loop-at.invariant; here = λ less. left_here _ c.loop-at.at c.if-table-at-eq0.true }

pub loop-at-preserved : goal.loop-at-preserved
loop-at-preserved c = one_more _ c.loop-at.at c.loop-at.invariant c.if-table-at-eq0.false

pub returns : goal.returns
returns c = record { within = omega arith; before = λ J h. c.loop-at.invariant J (omega arith); here = λ less. absurd (omega arith) }
