-- `rule_row::row_operation` meets its contract. A return for each test. Assumes nothing.
use Rattle.rulesafety.proofs.Operations.{classical_row, plain_row, computed_row}
use Rattle.rulesafety.proofs.rule_row.row_operation.Goals as goal

pub returns-then-literals-row-lt-BUILTIN : goal.returns-then-literals-row-lt-BUILTIN
returns-then-literals-row-lt-BUILTIN c = classical_row c.args.literals.now c.args.literal c.if-literals-row-lt-BUILTIN.true

pub returns-then-literals-row-eq-NO_OPERATION : goal.returns-then-literals-row-eq-NO_OPERATION
returns-then-literals-row-eq-NO_OPERATION c =
    let a = c.args in
    plain_row a.literals.now a.literal c.if-literals-row-lt-BUILTIN.false c.if-literals-row-eq-NO_OPERATION.true

pub returns : goal.returns
returns c =
    let a = c.args in
    computed_row a.literals.now a.literal c.if-literals-row-lt-BUILTIN.false c.if-literals-row-eq-NO_OPERATION.false
