-- `seen::none_seen` meets its contract: a body and heads that have the first fact in common refute nothing. Assumes nothing.
use Rattle.subsets.proofs.SeenPairs.{none_seen}
use Rattle.subsets.proofs.seen.none_seen.Goals as goal

pub returns : goal.returns
returns c = none_seen
