-- `write_tokens` meets its contract. The invariant: what is written, and what is still to be written of the tokens from this one on, are the text's
-- plain form. The measure is what is left of the text. Assumes nothing.
use Prim.Native.Nat.{◌-◌}
use lib.ListN.{length}
use Rattle.plaintokens.proofs.Turns.{SoFar}
use Rattle.plaintokens.proofs.write_tokens.Given as goal

abbrev pub invariant-loop-token : goal.invariant-loop-token
invariant-loop-token l = SoFar l.text l.initial.buffer l.before l.last l.next l.token l.buffer

abbrev pub decreases-loop-token : goal.decreases-loop-token
decreases-loop-token l = length l.text - l.token.place.start
