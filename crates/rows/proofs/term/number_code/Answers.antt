-- `term::number_code` meets its contract: a number and its code differ by a constant. Assumes nothing.
use native.Mathlib.Omega.{arith}
use Rattle.rows.proofs.Terms.{signed_small, behind_minus, with_no_minus}
use Rattle.rows.proofs.term.number_code.Goals as goal

pub overflow_sub-result : goal.overflow_sub-result
overflow_sub-result c = omega (arith, signed_small _ _ c.requires)

pub returns-then-negative : goal.returns-then-negative
returns-then-negative c = rw c.if-negative.true (behind_minus _)

pub overflow_add-result : goal.overflow_add-result
overflow_add-result c = omega (arith, signed_small _ _ c.requires)

pub returns : goal.returns
returns c = rw c.if-negative.false (with_no_minus _)
