-- `line::put_predicates` meets its contract, predicate by predicate. Assumes nothing.
use mathlib.Core.Path.{refl}
use native.Mathlib.Omega.{arith}
use Rattle.factline.proofs.LineLaws.{listed_none, listed_more}
use Rattle.factline.proofs.line.put_predicates.Goals as goal

pub loop-k-init : goal.loop-k-init
loop-k-init c = listed_none _ _

pub loop-k-preserved : goal.loop-k-preserved
loop-k-preserved c = listed_more _ _ _ _ c.loop-k.invariant (let l = c.loop-k.invariant.kept.long in omega arith) _ refl
