-- `complete` meets its contract. The invariant: what the equations before this place have completed. Assumes nothing.
use Rattle.overflow.proofs.Completing.{From}
use Rattle.overflow.proofs.complete.Given as goal

abbrev pub invariant-loop-place : goal.invariant-loop-place
invariant-loop-place l = From l.literals l.places l.bound l.initial.values l.place-index l.more l.values
