-- `complete` meets its contract. Assumes nothing.
use Rattle.tables.proofs.Strides.{at_member}
use Rattle.overflow.proofs.Completing.{none_completed, all_completed, one_completed}
use Rattle.overflow.proofs.complete.Goals as goal

pub loop-place-init : goal.loop-place-init
loop-place-init c =
    none_completed c.args.literals.now c.args.places.now c.args.bound c.args.values.now c.requires.1

pub complete_one-more-requires : goal.complete_one-more-requires
complete_one-more-requires c =
    (c.requires.0 _ (at_member c.args.places.now c.loop-place.place-index c.loop-place-test.true), c.loop-place.invariant.adds.knowing)

pub loop-place-preserved : goal.loop-place-preserved
loop-place-preserved c =
    one_completed c.args.literals.now c.args.places.now c.args.bound c.args.values.now c.loop-place.place-index c.loop-place.more c.loop-place.values c.loop-place.invariant c.loop-place-test.true _ _ c.complete_one-more.ensures

pub returns : goal.returns
returns c =
    all_completed c.args.literals.now c.args.places.now c.args.bound c.args.values.now c.loop-place.place-index c.loop-place.more c.loop-place.values c.loop-place.invariant c.loop-place-test.false
