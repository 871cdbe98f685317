-- `take_all` meets its contract. The invariant: the first a facts have their places. Assumes nothing.
use native.Mathlib.Omega.{arith}
use Rattle.search.proofs.AllTaken.{taken_none, taken_more, taken_all}
use Rattle.search.proofs.taken.take_all.Goals as goal

pub loop-a-init : goal.loop-a-init
loop-a-init c = taken_none _ _ c.requires.0

pub loop-a-preserved : goal.loop-a-preserved
loop-a-preserved c =
    let l = c.loop-a in
    taken_more _ _ _ _ l.a (omega (arith, l.invariant.long, c.requires.1)) (omega (arith, l.invariant.room, c.requires.0.room, c.requires.1)) l.invariant

pub returns : goal.returns
returns c = let l = c.loop-a in taken_all _ _ _ _ l.a _ c.loop-a-test.false l.auto.a-end c.requires.0 c.requires.1 l.invariant
