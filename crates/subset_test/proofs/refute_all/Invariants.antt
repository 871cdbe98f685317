-- `refute_all` meets its contract. The invariant: the rules before this one have ruled out what they refute, and each pair of the cache is ruled out.
-- Assumes nothing.
use mathlib.Core.Path.{◌≡◌}
use lib.ListN.{length}
use Rattle.subsets.specs.Seen.{Seen}
use Rattle.subset_test.specs.Smaller.{Refutes}
use Rattle.subset_test.proofs.refute_all.Given as goal

abbrev pub invariant-loop-r : goal.invariant-loop-r
invariant-loop-r l = (length l.values ≡ 16) × Refutes l.ranks l.store l.count l.total l.r l.initial.table l.table × Seen l.seen l.table
