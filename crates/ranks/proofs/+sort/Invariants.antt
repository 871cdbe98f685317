-- The measure of `sort` is how many numbers there are.
use lib.ListN.{length}
use Rattle.ranks.proofs.+sort.Given as goal

abbrev pub decreases-sort : goal.decreases-sort
decreases-sort l = length l.order.now
