-- `number` meets its contract. The invariant: what has been passed are the numbers below. Assumes nothing.
use mathlib.Core.Path.{◌≡◌}
use lib.ListN.{take}
use Rattle.ranks.specs.Sorting.{numbers}
use Rattle.ranks.proofs.number.Given as goal

abbrev pub invariant-loop-i : goal.invariant-loop-i
invariant-loop-i l = take l.i l.order ≡ numbers l.i
