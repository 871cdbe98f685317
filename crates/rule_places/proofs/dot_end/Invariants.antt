-- `dot_end` meets its contract. The invariant: reading stands here, and the first dot from here on is the first from the start on. The
-- measure is what is left of the text. Assumes nothing.
use Prim.Native.Nat.{◌-◌}
use mathlib.Core.Bool.{false}
use mathlib.Core.Path.{◌≡◌}
use lib.ListN.{length}
use Rattle.texts.specs.Place.{Stands}
use Rattle.syntax.specs.Text.{placed_from, end_of}
use Rattle.rule_places.specs.Sentences.{dot_end}
use Rattle.rule_places.proofs.dot_end.Given as goal

abbrev pub invariant-reading : goal.invariant-reading
invariant-reading l = Stands l.text l.next × (dot_end (end_of l.text) (placed_from false l.text l.initial.next.start) ≡ dot_end (end_of l.text) (placed_from false l.text l.next.start))

abbrev pub decreases-reading : goal.decreases-reading
decreases-reading l = length l.text - l.next.start
