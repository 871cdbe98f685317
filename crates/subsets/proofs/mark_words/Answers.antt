-- `mark_words` meets its contract. The invariant: each chosen word before the one at hand has the pattern, and `others` has no fact in common with
-- the masks. The measure is how many words are left. Assumes nothing.
use mathlib.Core.Path.{refl}
use Prim.Native.Nat.{◌+◌, ◌^◌, ◌<◌}
use native.Mathlib.Nat.{zero-add}
use native.Mathlib.Omega.{arith}
use lib.Dec.{lit<}
use Rattle.subsets.proofs.Marking.{marked_none, fixed_small, counted_on, counted_few, marked_more, marked_all}
use Rattle.subsets.proofs.mark_words.Goals as goal

pub loop-others-init : goal.loop-others-init
loop-others-init c = let p = c.requires in rw (zero-add c.args.body) (marked_none c.args.pattern c.args.body c.args.heads p.1 p.2 c.args.table.now p.0, refl, lit< tt)

pub overflow_add-others-in-loop-others : goal.overflow_add-others-in-loop-others
overflow_add-others-in-loop-others c = omega (arith, fixed_small c.args.body c.args.heads c.requires.1 c.requires.2)

pub overflow_add-others-in-loop-others-2 : goal.overflow_add-others-in-loop-others-2
overflow_add-others-in-loop-others-2 c = omega (arith, fixed_small c.args.body c.args.heads c.requires.1 c.requires.2)

pub loop-others-smaller : goal.loop-others-smaller
loop-others-smaller c =
    let l = c.loop-others in
    let next = counted_on c.args.body c.args.heads c.requires.1 c.requires.2 l.others (omega arith) l.invariant.1 in
    omega (arith, next.more)

pub loop-others-preserved : goal.loop-others-preserved
loop-others-preserved c =
    let l = c.loop-others in
    let body = c.args.body in
    let heads = c.args.heads in
    let few : l.others < 2 ^ 14 = omega arith in
    let next = counted_on body heads c.requires.1 c.requires.2 l.others few l.invariant.1 in
    (marked_more c.args.pattern body heads c.requires.1 c.requires.2 _ l.table l.others _ c.requires.0 c.requires.3 l.invariant.0 l.invariant.1 next (omega arith), next.apart, counted_few body heads c.requires.1 c.requires.2 l.others few)

pub returns : goal.returns
returns c = let l = c.loop-others in marked_all _ _ _ (l.others + c.args.body) _ _ (omega arith) l.invariant.0
