-- `empty_small` meets its contract: all its numbers are zero. Assumes nothing.
use native.Mathlib.Omega.{arith}
use Rattle.names.specs.Table.{few_names, small_size}
use Rattle.names.proofs.Emptied.{zeros_empty}
use Rattle.names.proofs.empty_small.Goals as goal

pub returns : goal.returns
returns c = zeros_empty few_names small_size (omega arith) (omega arith)
