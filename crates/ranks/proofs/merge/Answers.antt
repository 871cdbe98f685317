-- `merge` meets its contract. The invariant: i numbers of the left and j of the right are merged. The measure is what is left. Assumes nothing.
use mathlib.Core.Path.{refl}
use native.Mathlib.Omega.{arith}
use lib.ListN.{length-set}
use Rattle.ranks.proofs.Merging.{merging_none, turned, taken_more, all_taken}
use borrow.Author.Rules.{rules}
use Rattle.ranks.proofs.merge.Goals as goal

pub loop-i-init : goal.loop-i-init
loop-i-init c = (refl, merging_none _ _ _ _)

pub offset_bounds-left-i : goal.offset_bounds-left-i
offset_bounds-left-i c = let h = (c.left_is_next.ensures.from_left c.if-left_is_next.true).there in search rules

pub bounds-left-i : goal.bounds-left-i
bounds-left-i c = (c.left_is_next.ensures.from_left c.if-left_is_next.true).there

pub loop-i-smaller-then-left_is_next : goal.loop-i-smaller-then-left_is_next
loop-i-smaller-then-left_is_next c = simp length-set (search rules)

pub loop-i-preserved-then-left_is_next : goal.loop-i-preserved-then-left_is_next
loop-i-preserved-then-left_is_next c =
    let inv = c.loop-i.invariant in
    (simp length-set inv.0, taken_more inv.1 c.loop-i-test.true c.requires.1 (c.left_is_next.ensures.from_left c.if-left_is_next.true) _ _ (omega arith) (omega arith))

pub offset_bounds-right-j : goal.offset_bounds-right-j
offset_bounds-right-j c = let h = (c.left_is_next.ensures.from_right c.if-left_is_next.false).there in search rules

pub bounds-right-j : goal.bounds-right-j
bounds-right-j c = (c.left_is_next.ensures.from_right c.if-left_is_next.false).there

pub loop-i-smaller : goal.loop-i-smaller
loop-i-smaller c = simp length-set (search rules)

pub loop-i-preserved : goal.loop-i-preserved
loop-i-preserved c =
    let inv = c.loop-i.invariant in
    (simp length-set inv.0, turned (taken_more (turned inv.1) c.loop-i-test.true c.requires.2 (c.left_is_next.ensures.from_right c.if-left_is_next.false) _ _ (omega arith) (omega arith)))

pub returns : goal.returns
returns c =
    let p = c.requires.3 in
    let l = c.loop-i.invariant.0 in
    all_taken c.loop-i.invariant.1 c.loop-i-test.false (omega arith)
