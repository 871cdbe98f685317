-- `predicate` meets its contract: with a name's place below 2^32 the number fits. Assumes nothing.
use mathlib.Core.Path.{refl}
use native.Mathlib.Omega.{arith}
use Rattle.codes.specs.Predicates.{sign, predicate_code}
use Rattle.codes.proofs.predicate.Goals as goal

pub overflow_mul-result : goal.overflow_mul-result
overflow_mul-result c = omega arith

pub overflow_add-result : goal.overflow_add-result
overflow_add-result c = omega arith

pub overflow_mul-result-then-negative : goal.overflow_mul-result-then-negative
overflow_mul-result-then-negative c = omega arith

pub overflow_add-result-then-negative : goal.overflow_add-result-then-negative
overflow_add-result-then-negative c = omega arith

pub returns-then-negative : goal.returns-then-negative
unfolding sign predicate_code
returns-then-negative c = rw c.if-negative.true refl

pub overflow_mul-result-2 : goal.overflow_mul-result-2
overflow_mul-result-2 c = omega arith

pub overflow_mul-result-3 : goal.overflow_mul-result-3
overflow_mul-result-3 c = omega arith

pub overflow_add-result-2 : goal.overflow_add-result-2
overflow_add-result-2 c = omega arith

pub returns : goal.returns
unfolding sign predicate_code
returns c = rw c.if-negative.false (omega arith)
