-- `subsets_of` meets its contract. Assumes nothing.
use native.Mathlib.Omega.{arith}
use Rattle.derived_set.proofs.Bits.{one_shifted}
use Rattle.subset_test.proofs.subsets_of.Goals as goal

pub returns : goal.returns
returns c = one_shifted c.args.count (omega (arith, c.requires))
