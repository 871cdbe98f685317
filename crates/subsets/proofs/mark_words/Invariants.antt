-- `mark_words` meets its contract. The invariant: each chosen word before the one at hand has the pattern, and `others` has no fact in common with
-- the masks. The measure is how many words are left. Assumes nothing.
use Prim.Native.Nat.{◌+◌, ◌-◌, ◌^◌, ◌<◌}
use lib.ListN.{length}
use lib.Bits.{bit_or}
use Rattle.subsets.proofs.Choosing.{Apart}
use Rattle.subsets.proofs.Marking.{MarkedTo}
use Rattle.subsets.proofs.mark_words.Given as goal

abbrev pub invariant-loop-others : goal.invariant-loop-others
invariant-loop-others l = MarkedTo l.pattern l.body l.heads (l.others + l.body) l.initial.table l.table × Apart l.others (bit_or l.body l.heads) × (l.others < 2 ^ 15)

abbrev pub decreases-loop-others : goal.decreases-loop-others
decreases-loop-others l = length l.initial.table - (l.others + l.body)
