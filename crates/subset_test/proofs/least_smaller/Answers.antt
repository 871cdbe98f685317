-- `least_smaller` meets its contract: the first number that no matching refutes, as a set. Assumes nothing.
use Rattle.subset_test.proofs.Tested.{tested_none, tested_some, blank_cut}
use Rattle.subset_test.proofs.least_smaller.Goals as goal

pub first_unrefuted-number-requires : goal.first_unrefuted-number-requires
first_unrefuted-number-requires c = (c.requires.0, c.requires.1, blank_cut c.args.count _ c.words_for-words.ensures.0 c.words_for-words.ensures.1, c.none_seen-seen.ensures _)

pub returns-then-number-own_number : goal.returns-then-number-own_number
returns-then-number-own_number c =
    let a = c.args in
    tested_some a.ranks.now a.store.now a.count a.total c.requires.0 _ c.first_unrefuted-number.ensures (rw c.own_number.ensures at c.if-number-own_number.true) _ c.kept_facts.ensures

pub returns : goal.returns
returns c =
    let a = c.args in
    tested_none a.ranks.now a.store.now a.count a.total c.requires.0 _ c.first_unrefuted-number.ensures (rw c.own_number.ensures at c.if-number-own_number.false)
