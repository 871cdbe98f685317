-- `scan::scan_of` meets its contract. The invariant: what the scan of the meaning finds is what is found so far and what it finds from
-- here. The measure is how many equations may still come. Assumes nothing.
use Prim.Native.Nat.{◌-◌}
use Rattle.rulesafety.proofs.Going.{Going}
use Rattle.rulesafety.proofs.scan.scan_of.Given as goal

abbrev pub invariant-loop-scan : goal.invariant-loop-scan
invariant-loop-scan l = Going l.literals l.first l.count l.scan

abbrev pub decreases-loop-scan : goal.decreases-loop-scan
decreases-loop-scan l = l.count - l.scan.equations.count
