-- `refute_all` meets its contract. The invariant: the rules before this one have ruled out what they refute, and each pair of the cache is ruled out.
-- Assumes nothing.
use mathlib.Core.Path.{◌≡◌}
use native.Mathlib.Omega.{arith}
use Rattle.subset_test.proofs.Tested.{none_refuted, walking_start, rule_refuted}
use Rattle.subset_test.proofs.refute_all.Goals as goal

pub loop-r-init : goal.loop-r-init
loop-r-init c = let a = c.args in (omega arith, none_refuted a.ranks.now a.store.now a.count a.total a.table.now, c.requires.3)

pub refute_from-requires : goal.refute_from-requires
refute_from-requires c =
    let a = c.args in
    (walking_start a.store.now a.count a.total c.requires.0 c.requires.1 c.loop-r.r (omega (arith, c.loop-r-test.true)) _ _ (omega (arith, c.loop-r.invariant.0)) (omega (arith, c.loop-r.invariant.1.long, c.requires.2)), c.loop-r.invariant.2)

pub loop-r-preserved : goal.loop-r-preserved
loop-r-preserved c =
    let a = c.args in
    let w = c.refute_from.ensures.0 in
    (omega (arith, w.kept.long, c.loop-r.invariant.0), rule_refuted a.store.now a.count a.total c.requires.0 c.requires.1 c.loop-r.r (omega (arith, c.loop-r-test.true)) a.ranks.now a.table.now _ _ c.loop-r.invariant.1 _ _ w, c.refute_from.ensures.1)

pub returns : goal.returns
returns c = let e : c.loop-r.r ≡ c.args.total = omega arith in rw e at c.loop-r.invariant.1
