-- `rule_row::has_operation` meets its contract: the chain is over the numbers of the body's rows. Assumes nothing.
use mathlib.Core.Path.{refl, ◌∙◌}
use Prim.Native.Nat.{◌+◌}
use native.Mathlib.Omega.{arith}
use borrow.Author.Rules.{rules}
use Rattle.std.proofs.Common.{tests}
use Rattle.std.proofs.lemmas.Iterator.{YieldsList-from_range}
use Rattle.std.proofs.lemmas.Iterator.Search.{any_from_yields_List}
use Rattle.rulesafety.specs.RuleRow.{row_operation}
use Rattle.rulesafety.proofs.Operations.{operation_found}
use Rattle.rulesafety.proofs.rule_row.has_operation.Goals as goal

pub returns : goal.returns
returns c =
    let a = c.args in
    any_from_yields_List (row_operation a.literals.now) _ _ c.any.result c.any.ensures.ran (YieldsList-from_range a.first (a.first + a.count) a.count refl (omega arith)) (λ x b q k. search (rules, tests))
    ∙ operation_found a.literals.now a.count a.first
