-- `several::several_heads` meets its contract. The invariant: no rule before this one has several heads. Assumes nothing.
use mathlib.Core.Path.{◌≡◌, sym}
use native.Mathlib.Omega.{arith}
use lib.Dec.{lit<}
use Rattle.judge.proofs.HeadCounts.{none_several, still_single, several_there}
use Rattle.judge.proofs.several.several_heads.Goals as goal

pub loop-r-init : goal.loop-r-init
loop-r-init c = none_several c.args.store.now

pub rule_column-requires : goal.rule_column-requires
rule_column-requires c = (c.requires.0, omega (arith, c.requires.1, c.loop-r-test.true), lit< tt)

pub returns-then-rule_column-gt1 : goal.returns-then-rule_column-gt1
returns-then-rule_column-gt1 c = sym (several_there c.args.store.now c.loop-r.r c.args.total c.loop-r-test.true (omega (arith, c.rule_column.ensures, c.if-rule_column-gt1.true)))

pub loop-r-preserved : goal.loop-r-preserved
loop-r-preserved c = still_single c.args.store.now c.loop-r.r c.loop-r.invariant (omega (arith, c.rule_column.ensures, c.if-rule_column-gt1.false))

pub returns : goal.returns
returns c = let e : c.loop-r.r ≡ c.args.total = omega (arith, c.loop-r.auto.r-end, c.loop-r-test.false) in sym (rw e at c.loop-r.invariant)
