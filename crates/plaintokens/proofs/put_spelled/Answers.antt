-- `put_spelled` meets its contract. Assumes nothing.
use mathlib.Core.Path.{◌∙◌, sym as inv}
use Rattle.plaintokens.proofs.Puts.{put_as, room_as}
use Rattle.plaintokens.proofs.ByTests.{other_sign, as_it_stands}
use Rattle.plaintokens.proofs.put_spelled.Goals as goal

pub put_bytes-requires : goal.put_bytes-requires
put_bytes-requires c =
    let a = c.args in
    room_as a.at (other_sign a.text.now a.token c.if-token-eq-ALSO_UNEQUAL.true) c.requires

pub returns-then-token-eq-ALSO_UNEQUAL : goal.returns-then-token-eq-ALSO_UNEQUAL
returns-then-token-eq-ALSO_UNEQUAL c =
    let a = c.args in
    put_as (other_sign a.text.now a.token c.if-token-eq-ALSO_UNEQUAL.true) c.put_bytes.ensures

pub put_bytes-requires-2 : goal.put_bytes-requires-2
put_bytes-requires-2 c =
    let a = c.args in
    room_as a.at (as_it_stands a.text.now a.token c.if-token-eq-ALSO_UNEQUAL.false ∙ inv c.part.ensures) c.requires

pub returns : goal.returns
returns c =
    let a = c.args in
    put_as (as_it_stands a.text.now a.token c.if-token-eq-ALSO_UNEQUAL.false ∙ inv c.part.ensures) c.put_bytes-2.ensures
