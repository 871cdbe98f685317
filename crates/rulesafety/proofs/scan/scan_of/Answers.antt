-- `scan::scan_of` meets its contract. The invariant: what the scan of the meaning finds is what is found so far and what it finds from
-- here. The measure is how many equations may still come. Assumes nothing.
use native.Mathlib.Omega.{arith}
use Rattle.rulesafety.proofs.Going.{going_start, going_full, going_stop, gain_low, going_on}
use Rattle.rulesafety.proofs.scan.scan_of.Goals as goal

pub loop-scan-init : goal.loop-scan-init
loop-scan-init c =
    let a = c.args in
    going_start a.literals.now a.first a.count _ _ c.in_positives.ensures c.new.ensures

pub returns-in_default : goal.returns-in_default
returns-in_default c =
    let a = c.args in
    going_stop a.literals.now a.first a.count c.requires.1 _ c.loop-scan.invariant c.in_default.ensures.is

pub push-requires : goal.push-requires
push-requires c =
    let a = c.args in
    let few = c.requires.1 in
    (omega arith, gain_low a.literals.now a.first a.count few _ c.loop-scan.invariant _ c.in-Some.ensures.is)

pub loop-scan-preserved : goal.loop-scan-preserved
loop-scan-preserved c =
    let a = c.args in
    going_on a.literals.now a.first a.count c.requires.1 _ c.loop-scan.invariant _ c.in-Some.ensures.is c.loop-scan-test.true _ c.push.ensures

pub returns : goal.returns
returns c =
    let a = c.args in
    going_full a.literals.now a.first a.count c.requires.1 _ c.loop-scan.invariant c.loop-scan-test.false
