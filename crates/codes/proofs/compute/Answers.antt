-- `compute` meets its contract: each of the three results of two numbers in range fits. Assumes nothing.
use borrow.Author.Tests.{ne_eqb}
use mir.Syntax.{w64}
use mir.ValLaws.{to_z-of_z}
use Rattle.meaning.specs.Domain.{plus, minus, times}
use Rattle.meaning.specs.Values.{operate_numbers}
use Rattle.codes.specs.Arithmetic.{operation_at}
use Rattle.codes.proofs.Numbers.{result_fits}
use Rattle.codes.proofs.compute.Goals as goal

pub overflow_add-result : goal.overflow_add-result
unfolding operate_numbers
overflow_add-result c = rw (to_z-of_z w64 c.args.m c.ranges.m, to_z-of_z w64 c.args.n c.ranges.n) (result_fits plus c.args.m c.args.n c.requires.0 c.requires.1)

pub returns-then-operation-eq-PLUS : goal.returns-then-operation-eq-PLUS
unfolding operation_at operate_numbers
returns-then-operation-eq-PLUS c = rw (to_z-of_z w64 c.args.m c.ranges.m, to_z-of_z w64 c.args.n c.ranges.n, c.if-operation-eq-PLUS.true) (to_z-of_z w64 _ (result_fits plus c.args.m c.args.n c.requires.0 c.requires.1))

pub overflow_sub-result : goal.overflow_sub-result
unfolding operate_numbers
overflow_sub-result c = rw (to_z-of_z w64 c.args.m c.ranges.m, to_z-of_z w64 c.args.n c.ranges.n) (result_fits minus c.args.m c.args.n c.requires.0 c.requires.1)

pub returns-then-operation-eq-MINUS : goal.returns-then-operation-eq-MINUS
unfolding operation_at operate_numbers
returns-then-operation-eq-MINUS c = rw (to_z-of_z w64 c.args.m c.ranges.m, to_z-of_z w64 c.args.n c.ranges.n, c.if-operation-eq-MINUS.true) (to_z-of_z w64 _ (result_fits minus c.args.m c.args.n c.requires.0 c.requires.1))

pub overflow_mul-result : goal.overflow_mul-result
unfolding operate_numbers
overflow_mul-result c = rw (to_z-of_z w64 c.args.m c.ranges.m, to_z-of_z w64 c.args.n c.ranges.n) (result_fits times c.args.m c.args.n c.requires.0 c.requires.1)

pub returns : goal.returns
unfolding operation_at operate_numbers
returns c =
    let o = c.args.operation in
    rw (to_z-of_z w64 c.args.m c.ranges.m, to_z-of_z w64 c.args.n c.ranges.n, ne_eqb o 0 c.if-operation-eq-PLUS.false, ne_eqb o 1 c.if-operation-eq-MINUS.false) (to_z-of_z w64 _ (result_fits times c.args.m c.args.n c.requires.0 c.requires.1))
