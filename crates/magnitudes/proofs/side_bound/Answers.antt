-- `side_bound` meets its contract: a term, a sum or difference, and a product. Assumes nothing.
use native.Mathlib.Nat.{lt_of_le_of_lt, mul-le-mul}
use lib.Dec.{lit<}
use Rattle.magnitudes.proofs.Bounds.{plain_within, sum_within, product_within}
use Rattle.magnitudes.proofs.side_bound.Goals as goal

pub returns-then-operation-eq-NO_OPERATION : goal.returns-then-operation-eq-NO_OPERATION
returns-then-operation-eq-NO_OPERATION c = let a = c.args in λ g. plain_within a.literals.now a.l a.bounds.now c.if-operation-eq-NO_OPERATION.true _ c.term_bound-first.ensures

pub returns-then-operation-lt-TIMES : goal.returns-then-operation-lt-TIMES
returns-then-operation-lt-TIMES c =
    let a = c.args in λ g. sum_within a.literals.now a.l a.bounds.now c.if-operation-eq-NO_OPERATION.false _ _ c.term_bound-first.ensures c.term_bound-second.ensures c.if-operation-lt-TIMES.true g

pub overflow_mul-result : goal.overflow_mul-result
overflow_mul-result c = record { fits = lt_of_le_of_lt (mul-le-mul {n₂ = 1_000_000_000} {m₂ = 1_000_000_000} c.term_bound-first.ensures.modest c.term_bound-second.ensures.modest) (lit< tt) }

pub returns : goal.returns
returns c =
    let a = c.args in λ g. product_within a.literals.now a.l a.bounds.now c.if-operation-eq-NO_OPERATION.false _ _ c.term_bound-first.ensures c.term_bound-second.ensures c.if-operation-lt-TIMES.false g
