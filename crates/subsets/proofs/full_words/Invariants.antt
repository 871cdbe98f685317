-- `full_words` meets its contract. The invariant: all before word w are ruled out. Assumes nothing.
use Prim.Native.Nat.{◌*◌}
use Rattle.subsets.specs.Table.{AllOut}
use Rattle.subsets.proofs.full_words.Given as goal

abbrev pub invariant-loop-w : goal.invariant-loop-w
invariant-loop-w l = AllOut l.table (l.w * 64)
