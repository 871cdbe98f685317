-- `put_token` meets its contract: the blank, and then the token. Assumes nothing.
use Rattle.plaintokens.specs.Neighbours.{blank_between}
use Rattle.plaintokens.specs.PlainText.{spelled}
use Rattle.plaintokens.proofs.Puts.{put_none, put_then, put_length, put_as, room_as, room_first, room_rest}
use Rattle.plaintokens.proofs.ByTests.{nothing_of, all_of}
use Rattle.plaintokens.proofs.put_token.Goals as goal

pub returns-then-out : goal.returns-then-out
returns-then-out c = put_as (nothing_of _ c.args.out c.if-out.true) (put_none _ _)

pub put_blank-next-requires : goal.put_blank-next-requires
put_blank-next-requires c =
    let a = c.args in
    room_first a.at (blank_between a.last a.token.kind) (spelled a.text.now a.token) (room_as a.at (all_of _ a.out c.if-out.false) c.requires)

pub put_spelled-requires : goal.put_spelled-requires
put_spelled-requires c =
    room_rest _ c.put_blank-next.ensures (room_as c.args.at (all_of _ c.args.out c.if-out.false) c.requires)

pub shape_of-buffer : goal.shape_of-buffer
shape_of-buffer c = put_length (put_then c.put_blank-next.ensures c.put_spelled.ensures)

pub returns : goal.returns
returns c =
    put_as (all_of _ c.args.out c.if-out.false) (put_then c.put_blank-next.ensures c.put_spelled.ensures)
