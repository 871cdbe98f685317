-- `equations_stay` meets its contract. The invariant: behind the equations before this place there are values within the bounds that the others
-- complete to what all complete. Assumes nothing.
use Rattle.magnitudes.proofs.Equations.{Bounding}
use Rattle.magnitudes.proofs.equations_stay.Given as goal

abbrev pub invariant-loop-place : goal.invariant-loop-place
invariant-loop-place l = Bounding l.literals l.places l.initial.bounds l.place-index l.bounds
