-- `verdict` meets its contract: every fact is derived and no instance was met that is broken, or the candidate is rejected. Assumes nothing.
use native.Mathlib.Omega.{arith}
use borrow.Author.Rules.{rules}
use Rattle.judge.proofs.Verdicts.{judged_rejected, judged_short, judged_whole}
use Rattle.judge.proofs.verdict.Goals as goal

pub returns-in_default : goal.returns-in_default
returns-in_default c = let a = c.args in judged_rejected a.ranks.now a.store.now a.scan _ _ c.rejected.ensures _ c.in_default.ensures

pub returns-then-size-scan : goal.returns-then-size-scan
returns-then-size-scan c =
    let a = c.args in
    judged_short a.ranks.now a.store.now a.scan a.table.now _ c.in-Some.limit c.in-Some.ensures c.requires.0.tables.fact_table.few c.requires.4 _ c.rejected-then-size-scan.ensures _ (omega (arith, c.size.ensures, c.if-size-scan.true))

pub returns : goal.returns
returns c =
    let a = c.args in
    judged_whole a.ranks.now a.store.now a.scan.count a.scan.total a.table.now _ c.in-Some.limit c.in-Some.ensures c.requires.0.tables.fact_table.few c.requires.4 (omega (arith, c.size.ensures, c.if-size-scan.false)) _ _ (search rules) c.requires.2 c.requires.3
