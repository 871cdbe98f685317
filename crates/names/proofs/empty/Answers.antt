-- `empty` meets its contract: all its numbers are zero. Assumes nothing.
use native.Mathlib.Omega.{arith}
use Rattle.names.specs.Table.{most_names, table_size}
use Rattle.names.proofs.Emptied.{zeros_empty}
use Rattle.names.proofs.empty.Goals as goal

pub returns : goal.returns
returns c = zeros_empty most_names table_size (omega arith) (omega arith)
