-- `bound::in_positives` meets its contract. The invariant: the variables of the literals before this one are added. Assumes nothing.
use Prim.Native.Nat.{◌-◌}
use Rattle.tables.specs.Rows.{from, literal_at}
use Rattle.rulesafety.specs.Bound.{no_variables, Adds}
use Rattle.rulesafety.proofs.Adding.{in_some}
use Rattle.rulesafety.proofs.bound.in_positives.Given as goal

abbrev pub invariant-loop-literal : goal.invariant-loop-literal
invariant-loop-literal l = Adds no_variables l.bound (in_some (from (literal_at l.literals) (l.literal - l.first) l.first))
