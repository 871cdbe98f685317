-- `listed::positives_of` meets its contract. The invariant: the rows of the positive literals before this one are found. Assumes nothing.
use Prim.Native.Nat.{◌-◌}
use Rattle.rulesafety.proofs.Listing.{Found}
use Rattle.rulesafety.proofs.listed.positives_of.Given as goal

abbrev pub invariant-loop-literal : goal.invariant-loop-literal
invariant-loop-literal l = Found l.literals l.first l.found (l.literal - l.first)
