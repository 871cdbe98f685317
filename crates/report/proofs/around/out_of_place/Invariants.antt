-- `around::out_of_place` meets its contract. The invariant: what is first out of place from here on is so from the start on; the line and the
-- column are those of here; and the reader stands here. Assumes nothing.
use Rattle.texts.specs.Place.{Stands}
use Rattle.report.specs.declared.around.Found.{Found}
use Rattle.report.specs.Around.{OutOfPlace}
use Rattle.report.proofs.HandedOut.{StandsAt}
use Rattle.report.proofs.around.out_of_place.Given as goal

abbrev pub invariant-loop-line : goal.invariant-loop-line
invariant-loop-line l =
    record {
      kept : (r : Found) → OutOfPlace l.text l.start.start r → OutOfPlace l.text l.initial.start.start r;
      stands : Stands l.text l.start;
      reader : StandsAt l.text l.start.start l.line-iterator;
      can : (goal.iterator-loop-line).can_next l.line-iterator;
      finite : (goal.iterator-loop-line).is_finite l.line-iterator;
    }
