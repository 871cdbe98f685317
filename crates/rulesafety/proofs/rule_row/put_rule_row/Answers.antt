-- `rule_row::put_rule_row` meets its contract. Assumes nothing.
use mathlib.Core.Path.{refl}
use Rattle.rulesafety.proofs.Storing.{row_stored}
use Rattle.rulesafety.proofs.rule_row.put_rule_row.Goals as goal

pub returns : goal.returns
returns c =
    let a = c.args in
    row_stored a.literals.now a.number a.count _ c.scan_of-found.ensures _ refl c.has_operation-operation.ensures refl c.positives_of-positives.ensures _ _ c.put_numbers.ensures
