-- `tested` meets its contract: the first broken instance, a smaller set, or neither. Assumes nothing.
use native.Mathlib.Omega.{arith}
use Rattle.store.specs.Store.{facts_in}
use Rattle.derivation.specs.Rounds.{rules_for}
use Rattle.judge.proofs.Verdicts.{shows_broken, broken_none, judged_broken, judged_shown, judged_minimal}
use Rattle.judge.proofs.tested.Goals as goal

pub broken_at-requires : goal.broken_at-requires
broken_at-requires c = let t = c.requires.0.tables in (t.long, omega (arith, t.few, c.if-rule-scan.true))

pub returns-then-rule-scan : goal.returns-then-rule-scan
returns-then-rule-scan c =
    let a = c.args in
    λ rounds names k in-range. judged_broken names (rules_for a.store.now a.scan.total) (facts_in a.store.now) a.scan.count in-range rounds _ (shows_broken _ _ _ _ _ _ c.first_stop-rule.ensures names k c.requires.1 c.if-rule-scan.true _ c.broken_at.ensures)

pub returns-in-Some : goal.returns-in-Some
returns-in-Some c =
    let a = c.args in
    λ rounds names k in-range. judged_shown a.ranks.now a.store.now a.scan.count a.scan.total c.requires.3 names k in-range (broken_none _ _ _ _ _ _ c.first_stop-rule.ensures names k c.requires.1 (omega (arith, c.if-rule-scan.false))) rounds c.in-Some.set c.in-Some.ensures

pub returns-in-None : goal.returns-in-None
returns-in-None c =
    let a = c.args in
    λ rounds names k in-range. judged_minimal a.ranks.now a.store.now a.scan.count a.scan.total c.requires.3 names k in-range (broken_none _ _ _ _ _ _ c.first_stop-rule.ensures names k c.requires.1 (omega (arith, c.if-rule-scan.false))) rounds c.in-None.ensures
