-- `first_unrefuted` meets its contract: the rules rule out what they refute, and the first number that is left is looked up. Assumes nothing.
use native.Mathlib.Omega.{arith}
use lib.Pow.{suc_ones}
use Rattle.subset_test.proofs.Tested.{first_unrefuted}
use Rattle.subset_test.proofs.first_unrefuted.Goals as goal

pub refute_all-requires : goal.refute_all-requires
refute_all-requires c = (c.requires.0, c.requires.1, c.requires.2.room, c.requires.3)

pub own_number-requires : goal.own_number-requires
own_number-requires c = c.requires.1

pub first_left-requires : goal.first_left-requires
first_left-requires c = omega (arith, c.own_number.ensures, c.refute_all.ensures.long, c.requires.2.wide, suc_ones c.args.count)

pub shape_of-table : goal.shape_of-table
shape_of-table c = c.refute_all.ensures.long

pub returns : goal.returns
returns c =
    let a = c.args in
    first_unrefuted a.ranks.now a.store.now a.count a.total a.table.now _ c.requires.2 c.refute_all.ensures _ (rw c.own_number.ensures at c.first_left.ensures)
