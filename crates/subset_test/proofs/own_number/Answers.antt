-- `own_number` meets its contract. Assumes nothing.
use mathlib.Core.Path.{ap}
use Prim.Native.Nat.{ℕ, ◌-◌}
use native.Mathlib.Omega.{arith}
use lib.Pow.{suc_ones}
use Rattle.subset_test.proofs.own_number.Goals as goal

pub overflow_sub-result : goal.overflow_sub-result
overflow_sub-result c = omega (arith, c.subsets_of.ensures, suc_ones c.args.count)

pub returns : goal.returns
returns c = ap (λ (n : ℕ). n - 1) c.subsets_of.ensures
