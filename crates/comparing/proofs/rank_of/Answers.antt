-- `rank_of` meets its contract: the place is inside the ranks. Assumes nothing.
use Prim.Native.Nat.{◌<◌}
use lib.ListN.{length}
use borrow.Author.Rules.{rules}
use Rattle.codes.proofs.Order.{text_inside}
use Rattle.comparing.proofs.rank_of.Goals as goal

pub place_of-requires : goal.place_of-requires
place_of-requires c = (text_inside _ c.args.code c.requires).0

pub offset_bounds-ranks-place_of : goal.offset_bounds-ranks-place_of
offset_bounds-ranks-place_of c =
    let inside : c.place_of.result < length c.args.ranks.now = rw c.place_of.ensures (text_inside _ c.args.code c.requires).1 in
    search rules

pub bounds-ranks-place_of : goal.bounds-ranks-place_of
bounds-ranks-place_of c = rw c.place_of.ensures (text_inside _ c.args.code c.requires).1
