-- `pattern` meets its contract: each column is found right by computing, and a word of ones suits in no fact yet. Assumes nothing.
use mathlib.Core.Path.{refl}
use lib.Dec.{lit<}
use Rattle.derived_set.specs.Members.{bit}
use Rattle.subsets.specs.Table.{all_below}
use Rattle.subsets.proofs.Patterns.{column_is, full_leaves}
use Rattle.subsets.proofs.pattern.Goals as goal

pub cut-left-requires : goal.cut-left-requires
unfolding all_below bit
cut-left-requires c = (lit< tt, column_is 0 _ refl, full_leaves c.args.body c.args.heads)

pub cut-left-requires-2 : goal.cut-left-requires-2
unfolding all_below bit
cut-left-requires-2 c = (lit< tt, column_is 1 _ refl, c.cut-left.ensures)

pub cut-left-requires-3 : goal.cut-left-requires-3
unfolding all_below bit
cut-left-requires-3 c = (lit< tt, column_is 2 _ refl, c.cut-left-2.ensures)

pub cut-left-requires-4 : goal.cut-left-requires-4
unfolding all_below bit
cut-left-requires-4 c = (lit< tt, column_is 3 _ refl, c.cut-left-3.ensures)

pub cut-left-requires-5 : goal.cut-left-requires-5
unfolding all_below bit
cut-left-requires-5 c = (lit< tt, column_is 4 _ refl, c.cut-left-4.ensures)

pub cut-requires : goal.cut-requires
unfolding all_below bit
cut-requires c = (lit< tt, column_is 5 _ refl, c.cut-left-5.ensures)
