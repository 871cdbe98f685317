-- `leaves_range` meets its contract: a rule without an operation, and the operations of a body at completed values. Assumes nothing.
use native.Mathlib.Omega.{arith}
use lib.Dec.{lit<}
use Rattle.overflow.proofs.Rules.{binding, body_rows, body_end, no_operation_leaves, operations_leave}
use Rattle.overflow.proofs.leaves_range.Goals as goal

pub rule_column-requires : goal.rule_column-requires
rule_column-requires c = (c.requires.0, c.requires.1, lit< tt)

pub returns-then-rule_column-eq0 : goal.returns-then-rule_column-eq0
returns-then-rule_column-eq0 c =
    no_operation_leaves c.args.store.now c.args.r c.args.bound c.args.values.now c.requires.2 _ c.rule_column.ensures c.if-rule_column-eq0.true

pub complete_rule-more-requires : goal.complete_rule-more-requires
complete_rule-more-requires c =
    (c.requires.0, c.requires.1, binding c.args.store.now c.args.r c.requires.2, c.requires.3)

pub rule_column-first-requires : goal.rule_column-first-requires
rule_column-first-requires c =
    (c.requires.0, c.requires.1, lit< tt)

pub rule_column-length-requires : goal.rule_column-length-requires
rule_column-length-requires c =
    (c.requires.0, c.requires.1, lit< tt)

pub overflow_add-first : goal.overflow_add-first
overflow_add-first c =
    let end = body_end c.args.store.now c.args.r c.requires.0 c.requires.2 _ _ c.rule_column-first.ensures c.rule_column-length.ensures in omega (arith, end)

pub any_leaves-requires : goal.any_leaves-requires
any_leaves-requires c =
    (rw c.literals.ensures (body_rows c.args.store.now c.args.r c.requires.2 _ _ c.rule_column-first.ensures c.rule_column-length.ensures), c.complete_rule-more.ensures.adds.knowing)

pub shape_of-values : goal.shape_of-values
shape_of-values c = c.complete_rule-more.ensures.adds.kept.long

pub returns : goal.returns
returns c =
    operations_leave c.args.store.now c.args.r c.args.bound c.args.values.now c.requires.2 _ _ c.complete_rule-more.ensures _ _ c.rule_column-first.ensures c.rule_column-length.ensures _ (rw c.literals.ensures at c.any_leaves.ensures)
