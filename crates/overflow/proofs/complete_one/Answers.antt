-- `complete_one` meets its contract: a variable that has a value, a right side without one, and one with a value. Assumes nothing.
use native.Mathlib.Omega.{arith}
use Rattle.tables.specs.Layout.{terms_column}
use Rattle.tables.specs.Rows.{literal_column}
use Rattle.derived_set.proofs.Bits.{one_shifted}
use Rattle.matching.proofs.Masks.{bit_set, bit_clear}
use Rattle.overflow.proofs.Completing.{has_value, no_right, has_right}
use Rattle.overflow.proofs.complete_one.Goals as goal

pub overflow_shr-bound : goal.overflow_shr-bound
overflow_shr-bound c = omega (arith, c.requires.0.left)

pub returns-then-bound-x-eq1 : goal.returns-then-bound-x-eq1
returns-then-bound-x-eq1 c =
    has_value c.args.literals.now c.args.l c.args.bound c.args.values.now c.requires.0 c.requires.1 (bit_set _ _ c.if-bound-x-eq1.true)

pub right_value-right-requires : goal.right_value-right-requires
right_value-right-requires c =
    (c.requires.0.inside, c.requires.0.side, c.requires.1)

pub returns-then-right-le-NO_VALUE : goal.returns-then-right-le-NO_VALUE
returns-then-right-le-NO_VALUE c =
    no_right c.args.literals.now c.args.l c.args.bound c.args.values.now c.requires.0 c.requires.1 _ c.right_value-right.ensures (bit_clear _ _ c.if-bound-x-eq1.false) c.if-right-le-NO_VALUE.true

pub offset_bounds-values-place : goal.offset_bounds-values-place
offset_bounds-values-place c = omega (arith, c.requires.0.left)

pub bounds-values-place : goal.bounds-values-place
bounds-values-place c =
    omega (arith, c.requires.0.left, c.requires.1.wide)

pub overflow_shl-result : goal.overflow_shl-result
overflow_shl-result c = omega (arith, c.requires.0.left)

pub returns : goal.returns
returns c =
    rw (one_shifted (literal_column c.args.literals.now c.args.l terms_column) (omega (arith, c.requires.0.left))) (has_right c.args.literals.now c.args.l c.args.bound c.args.values.now c.requires.0 c.requires.1 _ c.right_value-right.ensures (bit_clear _ _ c.if-bound-x-eq1.false) (omega (arith, c.if-right-le-NO_VALUE.false)))
