-- `run::run_end` meets its contract. The invariant: what is left of the run from here, added to here, is where the run ends.
-- Assumes nothing.
use Prim.Native.Nat.{◌+◌}
use mathlib.Core.Path.{◌≡◌}
use lib.ListN.{drop}
use Rattle.lexis.specs.Run.{goes_on}
use Rattle.texts.specs.Prefix.{prefix_len}
use Rattle.lexis.proofs.run.run_end.Given as goal

abbrev pub invariant-loop-end : goal.invariant-loop-end
invariant-loop-end l = l.at + prefix_len (goes_on l.run) (drop l.at l.text) ≡ l.end + prefix_len (goes_on l.run) (drop l.end l.text)
