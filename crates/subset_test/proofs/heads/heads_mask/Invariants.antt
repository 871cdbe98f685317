-- `heads::heads_mask` meets its contract. The invariant: the mask has the heads before this one. Assumes nothing.
use Prim.Native.Nat.{◌-◌}
use Rattle.subset_test.specs.Stands.{HeadsMasked}
use Rattle.subset_test.proofs.heads.heads_mask.Given as goal

abbrev pub invariant-loop-l : goal.invariant-loop-l
invariant-loop-l l = HeadsMasked l.store l.count l.first (l.l - l.first) l.values l.mask
