-- `apply` meets its contract: both codes are tested, then the numbers behind them are computed with. Assumes nothing.
use mathlib.Core.Path.{sym, ◌∙◌}
use borrow.Author.Rules.{rules}
use mir.Syntax.{w64}
use mir.Val.{SFits}
use mir.ValLaws.{to_z-of_z}
use Rattle.codes.proofs.Results.{operand_in_range, applied_no_first, applied_no_second, applied_both}
use Rattle.codes.proofs.apply.Goals as goal

pub number_of-requires : goal.number_of-requires
number_of-requires c = sym c.is_number.ensures ∙ c.if-is_number.true

pub number_of-requires-then-is_number-2 : goal.number_of-requires-then-is_number-2
number_of-requires-then-is_number-2 c = sym c.is_number-then-is_number.ensures ∙ c.if-is_number-2.true

pub compute-z-requires : goal.compute-z-requires
compute-z-requires c =
    let f : SFits w64 c.number_of.result = search rules in
    let g : SFits w64 c.number_of-then-is_number-2.result = search rules in
    rw (to_z-of_z w64 c.number_of.result f, to_z-of_z w64 c.number_of-then-is_number-2.result g)
    (operand_in_range _ _ _ c.is_number.ensures c.if-is_number.true c.number_of.ensures, operand_in_range _ _ _ c.is_number-then-is_number.ensures c.if-is_number-2.true c.number_of-then-is_number-2.ensures)

pub returns-then-is_number-2 : goal.returns-then-is_number-2
returns-then-is_number-2 c =
    let f : SFits w64 c.number_of.result = search rules in
    let g : SFits w64 c.number_of-then-is_number-2.result = search rules in
    let h : SFits w64 c.compute-z.result = search rules in
    applied_both _ _ _ _ c.is_number.ensures c.if-is_number.true _ c.is_number-then-is_number.ensures c.if-is_number-2.true _ _ _ _
    (to_z-of_z w64 c.number_of.result f ∙ c.number_of.ensures)
    (to_z-of_z w64 c.number_of-then-is_number-2.result g ∙ c.number_of-then-is_number-2.ensures)
    (to_z-of_z w64 c.compute-z.result h ∙ c.compute-z.ensures)
    c.keep.ensures

pub returns-else-is_number-2 : goal.returns-else-is_number-2
returns-else-is_number-2 c = applied_no_second _ _ _ _ c.is_number.ensures c.if-is_number.true _ c.is_number-then-is_number.ensures c.if-is_number-2.false

pub returns-else-is_number : goal.returns-else-is_number
returns-else-is_number c = applied_no_first _ _ _ _ c.is_number.ensures c.if-is_number.false
