-- `equation::gains` meets its contract. A return for each test. Assumes nothing.
use mathlib.Core.Path.{sym, ◌∙◌}
use borrow.Author.Tests.{not-true, not-false}
use Rattle.rulesafety.proofs.Gaining.{no_builtin, other_comparison, left_bound, right_unbound, right_plain, right_computed}
use Rattle.rulesafety.proofs.equation.gains.Goals as goal

pub returns-then-literals-row-lt-BUILTIN : goal.returns-then-literals-row-lt-BUILTIN
returns-then-literals-row-lt-BUILTIN c = no_builtin _ c.args.literals.now c.args.literal c.if-literals-row-lt-BUILTIN.true

pub returns-then-literals-row-ne-EQUAL : goal.returns-then-literals-row-ne-EQUAL
returns-then-literals-row-ne-EQUAL c =
    other_comparison _ c.args.literals.now c.args.literal c.if-literals-row-lt-BUILTIN.false c.if-literals-row-ne-EQUAL.true

pub returns-then-term_bound : goal.returns-then-term_bound
returns-then-term_bound c =
    let a = c.args in
    left_bound _ a.literals.now a.literal c.if-literals-row-lt-BUILTIN.false c.if-literals-row-ne-EQUAL.false (sym c.term_bound.ensures ∙ c.if-term_bound.true)

pub returns-then-not-term_bound : goal.returns-then-not-term_bound
returns-then-not-term_bound c =
    let a = c.args in
    let left = sym c.term_bound.ensures ∙ c.if-term_bound.false in
    right_unbound _ a.literals.now a.literal c.if-literals-row-lt-BUILTIN.false c.if-literals-row-ne-EQUAL.false left (sym c.term_bound-2.ensures ∙ not-true _ c.if-not-term_bound.true-raw)

pub returns-then-literals-row-eq-NO_OPERATION : goal.returns-then-literals-row-eq-NO_OPERATION
returns-then-literals-row-eq-NO_OPERATION c =
    let a = c.args in
    let left = sym c.term_bound.ensures ∙ c.if-term_bound.false in
    let right = sym c.term_bound-2.ensures ∙ not-false _ c.if-not-term_bound.false-raw in
    right_plain _ a.literals.now a.literal c.if-literals-row-lt-BUILTIN.false c.if-literals-row-ne-EQUAL.false left right c.if-literals-row-eq-NO_OPERATION.true

pub returns : goal.returns
returns c =
    let a = c.args in
    let left = sym c.term_bound.ensures ∙ c.if-term_bound.false in
    let right = sym c.term_bound-2.ensures ∙ not-false _ c.if-not-term_bound.false-raw in
    right_computed _ a.literals.now a.literal c.if-literals-row-lt-BUILTIN.false c.if-literals-row-ne-EQUAL.false left right c.if-literals-row-eq-NO_OPERATION.false _ c.term_bound-3.ensures
