-- `verdict` meets its contract, kind by kind. Assumes nothing.
use lib.ListN.{get_or}
use mir.Val.{Fits}
use mir.Syntax.{w64}
use borrow.Author.Rules.{rules}
use Rattle.verdict.proofs.Telling.{tells_range, tells_broken, tells_accepted, tells_minimal, tells_smaller}
use Rattle.verdict.proofs.verdict.Goals as goal

pub returns-in-OutOfRange : goal.returns-in-OutOfRange
returns-in-OutOfRange c = tells_range _ _ _ _ c.in-OutOfRange.is _ c.rule_place-place.ensures _ c.of_fault.ensures

pub returns-in-Unsatisfied : goal.returns-in-Unsatisfied
returns-in-Unsatisfied c = tells_broken _ _ _ _ _ _ c.in-Unsatisfied.is _ c.min-count.ensures _ c.from_one.ensures

pub returns-in-Accepted : goal.returns-in-Accepted
returns-in-Accepted c = tells_accepted _ _ _ _ c.in-Accepted.is

pub returns-in-Minimal : goal.returns-in-Minimal
returns-in-Minimal c = tells_minimal _ _ _ c.in-Minimal.is

pub returns-in-Smaller : goal.returns-in-Smaller
returns-in-Smaller c = tells_smaller _ _ _ _ c.in-Smaller.is (search rules) (λ k. let of_64_bits : Fits w64 (get_or c.in-Smaller.set.words k 0) = search rules in of_64_bits.fits)
