-- `seen::rule_out_once` meets its contract: a pair that stands in its slot is ruled out already, and any other is ruled out and put there. Assumes
-- nothing.
use Rattle.subsets.proofs.SeenPairs.{seen_again, seen_more}
use Rattle.subsets.proofs.seen.rule_out_once.Goals as goal

pub returns-then-seen-at-2 : goal.returns-then-seen-at-2
returns-then-seen-at-2 c =
    let slot = c.slot_of-at in
    (seen_again c.args.seen.now c.args.table.now c.requires.3 slot.result slot.ensures c.args.body c.args.heads c.if-seen-at.true c.if-seen-at-2.true, c.requires.3)

pub returns : goal.returns
returns c =
    let ruled = c.rule_out.ensures in
    let slot = c.slot_of-at in
    (ruled, seen_more c.args.seen.now c.args.table.now c.requires.3 slot.result slot.ensures c.args.body c.args.heads _ ruled)
