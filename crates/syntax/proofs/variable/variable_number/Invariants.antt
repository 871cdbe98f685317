-- `variable::variable_number` meets its contract. The invariant: the variable is none of those passed, so its number is what has been
-- passed and its number among the others. Assumes nothing.
use Prim.Native.Nat.{◌+◌}
use mathlib.Core.Path.{◌≡◌}
use mathlib.Core.List.{map}
use lib.ListN.{drop}
use Rattle.texts.specs.Parts.{part}
use Rattle.texts.specs.Places.{places_in}
use Rattle.syntax.specs.Variables.{first_among}
use Rattle.syntax.proofs.variable.variable_number.Given as goal

abbrev pub invariant-loop-i : goal.invariant-loop-i
invariant-loop-i l = first_among l.name (map (part l.text) (places_in l.variables l.met)) ≡ l.i + first_among l.name (drop l.i (map (part l.text) (places_in l.variables l.met)))
