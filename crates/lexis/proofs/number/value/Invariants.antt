-- `number::value` meets its contract. The invariant: what is left of the digits, after the number so far, says what all say.
-- Assumes nothing.
use mathlib.Core.Path.{◌≡◌}
use lib.ListN.{drop}
use Rattle.lexis.specs.Number.{capped, decimal, decimal_after}
use Rattle.lexis.proofs.number.value.Given as goal

abbrev pub invariant-loop-digit : goal.invariant-loop-digit
invariant-loop-digit l = (capped l.number ≡ l.number) × (capped (decimal l.digits) ≡ capped (decimal_after l.number (drop l.digit-index l.digits)))
