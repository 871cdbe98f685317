-- `gap::gap_end` meets its contract. The invariant: what is left of the gap from here, added to here, is where the gap ends; and the line and
-- the column are those of here. The measure is what is left of the text: a comment has a byte. Assumes nothing.
use Prim.Native.Nat.{◌+◌, ◌-◌}
use mathlib.Core.Path.{◌≡◌}
use mathlib.Core.Bool.{true}
use lib.ListN.{length, drop}
use Rattle.tokens.specs.Gap.{gap}
use Rattle.texts.specs.Place.{Stands}
use Rattle.tokens.proofs.gap.gap_end.Given as goal

abbrev pub invariant-loop-end : goal.invariant-loop-end
invariant-loop-end l = (l.initial.end.start + gap true (drop l.initial.end.start l.text) ≡ l.end.start + gap true (drop l.end.start l.text)) × Stands l.text l.end

abbrev pub decreases-loop-end : goal.decreases-loop-end
decreases-loop-end l = length l.text - l.end.start
