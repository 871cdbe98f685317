-- `put_blank` meets its contract. Assumes nothing.
use Rattle.plaintokens.proofs.Puts.{put_none, put_as, room_as}
use Rattle.plaintokens.proofs.ByTests.{one_blank, no_blank}
use Rattle.plaintokens.proofs.put_blank.Goals as goal

pub put_byte-requires : goal.put_byte-requires
put_byte-requires c =
    let a = c.args in
    room_as a.at (one_blank a.last a.here _ c.runs_together.ensures c.if-runs_together.true) c.requires

pub returns-then-runs_together : goal.returns-then-runs_together
returns-then-runs_together c =
    let a = c.args in
    put_as (one_blank a.last a.here _ c.runs_together.ensures c.if-runs_together.true) c.put_byte.ensures

pub returns : goal.returns
returns c =
    let a = c.args in
    put_as (no_blank a.last a.here _ c.runs_together.ensures c.if-runs_together.false) (put_none _ _)
