-- `number::value` meets its contract. The invariant: what is left of the digits, after the number so far, says what all say.
-- Assumes nothing.
use mathlib.Core.Path.{refl, sym, ap, ◌∙◌}
use Rattle.lexis.specs.Number.{capped}
use Rattle.lexis.proofs.Decimal.{capped_twice, decimal_end, decimal_on}
use Rattle.lexis.proofs.number.value.Goals as goal

pub loop-digit-init : goal.loop-digit-init
unfolding capped
loop-digit-init c = (refl, refl)

pub loop-digit-preserved : goal.loop-digit-preserved
loop-digit-preserved c = (rw c.with_digit-number.ensures (capped_twice _), c.loop-digit.invariant.1 ∙ decimal_on _ _ _ _ c.loop-digit-test.true c.with_digit-number.ensures)

pub returns : goal.returns
returns c =
    let l = c.loop-digit in
    sym (l.invariant.1 ∙ ap capped (decimal_end _ _ _ c.loop-digit-test.false) ∙ l.invariant.0)
