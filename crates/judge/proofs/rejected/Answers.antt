-- `rejected` meets its contract: the search for a broken instance decides. Assumes nothing.
use mathlib.Core.Logic.{inl, inr}
use native.Mathlib.Omega.{arith}
use Rattle.judge.proofs.Verdicts.{shows_broken, shows_set}
use Rattle.judge.proofs.rejected.Goals as goal

pub broken_at-requires : goal.broken_at-requires
broken_at-requires c = let t = c.requires.0.tables in (t.long, omega (arith, t.few, c.if-rule-scan.true))

pub returns-then-rule-scan : goal.returns-then-rule-scan
returns-then-rule-scan c = λ names k. inl (shows_broken _ _ _ _ _ _ c.first_stop-rule.ensures names k c.requires.1 c.if-rule-scan.true _ c.broken_at.ensures)

pub returns : goal.returns
returns c = λ names k. inr (shows_set _ _ _ _ _ _ c.first_stop-rule.ensures names k c.requires.1 (omega (arith, c.if-rule-scan.false)) _)
