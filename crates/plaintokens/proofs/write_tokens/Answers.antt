-- `write_tokens` meets its contract. The invariant: what is written, and what is still to be written of the tokens from this one on, are the text's
-- plain form. The measure is what is left of the text. Assumes nothing.
use native.Mathlib.Omega.{arith}
use mathlib.Core.Bool.{false}
use mathlib.Core.Path.{refl}
use Rattle.texts.proofs.Counting.{start_stands}
use Rattle.syntax.proofs.Tokens.{past_countable, past_here}
use Rattle.plaintokens.proofs.Puts.{put_length}
use Rattle.plaintokens.proofs.Turns.{so_far_nothing, all_written, turn_room, turn_on, turn_less}
use Rattle.plaintokens.proofs.Theorems.{room_for, put_plain}
use Rattle.plaintokens.proofs.write_tokens.Goals as goal

pub token_at-token-requires : goal.token_at-token-requires
token_at-token-requires c = start_stands _

pub loop-token-init : goal.loop-token-init
loop-token-init c = so_far_nothing _ _ _ c.token_at-token.ensures

pub past-requires : goal.past-requires
past-requires c =
    past_countable false c.args.text.now c.loop-token.invariant.at _ c.loop-token.invariant.here (omega arith)

pub token_at-behind-requires : goal.token_at-behind-requires
token_at-behind-requires c =
    rw c.past.ensures (past_here false c.args.text.now c.loop-token.invariant.at _ c.loop-token.invariant.here (λ q. refl))

pub put_token-next-requires : goal.put_token-next-requires
put_token-next-requires c =
    turn_room c.loop-token.invariant c.loop-token-test.true _ (rw c.past.ensures at c.token_at-behind.ensures) _ c.byte_at.ensures _ c.left_out-out.ensures (room_for _ c.requires)

pub loop-token-smaller : goal.loop-token-smaller
loop-token-smaller c =
    turn_less c.loop-token.invariant c.loop-token-test.true _ (rw c.past.ensures at c.token_at-behind.ensures)

pub loop-token-preserved : goal.loop-token-preserved
loop-token-preserved c =
    turn_on c.loop-token.invariant c.loop-token-test.true _ (rw c.past.ensures at c.token_at-behind.ensures) _ c.byte_at.ensures _ c.left_out-out.ensures c.put_token-next.ensures _ c.latest-last.ensures

pub shape_of-buffer : goal.shape_of-buffer
shape_of-buffer c = put_length c.loop-token.invariant.put

pub returns : goal.returns
returns c =
    put_plain c.args.text.now (all_written c.loop-token.invariant c.loop-token-test.false)
