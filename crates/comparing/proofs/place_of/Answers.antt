-- `place_of` meets its contract: a kind starts at no code behind its own. Assumes nothing.
use native.Mathlib.Omega.{arith}
use Rattle.codes.proofs.Order.{start_below}
use Rattle.comparing.proofs.place_of.Goals as goal

pub overflow_sub-result : goal.overflow_sub-result
overflow_sub-result c = omega (arith, c.kind_start.ensures, start_below c.args.code c.requires)
