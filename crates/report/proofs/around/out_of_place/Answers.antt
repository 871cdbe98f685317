-- `around::out_of_place` meets its contract: line by line, as the reader hands them out. Assumes nothing.
use mathlib.Core.Path.{sym, ap, ◌∙◌}
use Rattle.texts.specs.declared.place.Place.{Place}
use Rattle.report.proofs.Located.{its_place, behind_its}
use Rattle.report.proofs.Passing.{none_left, stop_here, pass_on}
use Rattle.report.proofs.Reporting.{next_stands}
use Rattle.report.proofs.HandedOut.{stands_behind, handed, none_handed}
use Rattle.report.proofs.around.out_of_place.Goals as goal

pub returns-then-not-is_idle : goal.returns-then-not-is_idle
returns-then-not-is_idle c =
    let h = handed c.loop-line.invariant.reader c.in-Some.ensures.steps in
    c.loop-line.invariant.kept _ (rw c.with_len-place.ensures (stop_here _ _ c.loop-line.invariant.stands _ h.bytes h.here (sym c.is_idle.ensures ∙ c.if-not-is_idle.true)))

pub line_behind-start-requires : goal.line_behind-start-requires
line_behind-start-requires c =
    its_place _ _ _ c.loop-line.invariant.stands (handed c.loop-line.invariant.reader c.in-Some.ensures.steps).bytes _ c.with_len-place.ensures

pub loop-line-preserved : goal.loop-line-preserved
loop-line-preserved c =
    let h = handed c.loop-line.invariant.reader c.in-Some.ensures.steps in
    let next = behind_its _ _ _ c.loop-line.invariant.stands h.bytes _ c.with_len-place.ensures _ c.line_behind-start.ensures in
    record {
      kept = λ r o. c.loop-line.invariant.kept r (pass_on _ _ c.loop-line.invariant.stands _ h.bytes h.here (sym c.is_idle.ensures ∙ c.if-not-is_idle.false) (rw next at o));
      stands = next_stands _ _ c.line_behind-start.ensures;
      reader = rw (stands_behind _ _ _ h.bytes (ap (λ (p : Place). p.start) next)) h.on;
      can = tt;
      finite = tt;
    }

pub returns : goal.returns
returns c =
    c.loop-line.invariant.kept _ (rw c.with_len.ensures (none_left _ _ c.loop-line.invariant.stands (none_handed c.loop-line.invariant.reader c.in-None.ensures.steps)))
