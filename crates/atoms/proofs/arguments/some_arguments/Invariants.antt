-- `arguments::some_arguments` meets its contract. The invariant: the numbers so far stand for the arguments that have been read as far as here.
-- The measure is how many more there may be. Assumes nothing.
use Prim.Native.Nat.{◌-◌}
use mathlib.Core.Path.{◌≡◌}
use Rattle.syntax.specs.Text.{token_read}
use Rattle.atoms.proofs.ArgumentLists.{Going}
use Rattle.atoms.proofs.arguments.some_arguments.Given as goal

abbrev pub invariant-loop-read : goal.invariant-loop-read
invariant-loop-read l = Going l.program l.output l.text l.initial.names l.initial.variables l.cursor l.names l.variables l.at l.met l.terms l.count × (l.token ≡ token_read l.cursor.ground l.text l.at.start)

abbrev pub decreases-loop-read : goal.decreases-loop-read
decreases-loop-read l = 9 - l.count
