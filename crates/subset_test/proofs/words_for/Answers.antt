-- `words_for` meets its contract. Assumes nothing.
use native.Mathlib.Omega.{arith}
use Rattle.subset_test.proofs.Tested.{subsets_few, words_enough}
use Rattle.subset_test.proofs.words_for.Goals as goal

pub overflow_add-result : goal.overflow_add-result
overflow_add-result c = omega (arith, c.subsets_of.ensures, subsets_few c.args.count c.requires)

pub returns : goal.returns
returns c = rw c.subsets_of.ensures (words_enough c.args.count c.requires)
