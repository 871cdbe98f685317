-- `equations_stay` meets its contract. Assumes nothing.
use mathlib.Core.Bool.{false≢true}
use native.Mathlib.Omega.{arith}
use Rattle.tables.proofs.Strides.{at_member}
use Rattle.magnitudes.proofs.Equations.{bounding_none, bounding_one, bounding_all}
use borrow.Author.Rules.{rules}
use Rattle.magnitudes.proofs.equations_stay.Goals as goal

pub loop-place-init : goal.loop-place-init
loop-place-init c = let a = c.args in bounding_none a.literals.now a.places.now a.bounds.now c.requires.2

pub side_bound-bound-requires : goal.side_bound-bound-requires
side_bound-bound-requires c = let row = c.requires.0 _ (at_member c.args.places.now c.loop-place.place-index (search rules)) in (row.inside, omega (arith, c.loop-place.invariant.long, c.requires.1), c.loop-place.invariant.modest)

pub returns-then-bound-gt-GREATEST : goal.returns-then-bound-gt-GREATEST
returns-then-bound-gt-GREATEST c = (c.loop-place.invariant.long, c.loop-place.invariant.modest, λ z. absurd (false≢true z))

pub overflow_mul-x : goal.overflow_mul-x
overflow_mul-x c = let row = c.requires.0 _ (at_member c.args.places.now c.loop-place.place-index (search rules)) in omega (arith, row.inside)

pub overflow_add-x : goal.overflow_add-x
overflow_add-x c = let row = c.requires.0 _ (at_member c.args.places.now c.loop-place.place-index (search rules)) in omega (arith, row.inside)

pub offset_bounds-literals-l : goal.offset_bounds-literals-l
offset_bounds-literals-l c = let row = c.requires.0 _ (at_member c.args.places.now c.loop-place.place-index (search rules)) in omega (arith, row.inside)

pub bounds-literals-l : goal.bounds-literals-l
bounds-literals-l c = let row = c.requires.0 _ (at_member c.args.places.now c.loop-place.place-index (search rules)) in omega (arith, row.inside)

pub offset_bounds-bounds-x : goal.offset_bounds-bounds-x
offset_bounds-bounds-x c = let row = c.requires.0 _ (at_member c.args.places.now c.loop-place.place-index (search rules)) in omega (arith, row.left)

pub bounds-bounds-x : goal.bounds-bounds-x
bounds-bounds-x c = let row = c.requires.0 _ (at_member c.args.places.now c.loop-place.place-index (search rules)) in omega (arith, row.left, c.loop-place.invariant.long, c.requires.1)

pub loop-place-preserved : goal.loop-place-preserved
loop-place-preserved c = let row = c.requires.0 _ (at_member c.args.places.now c.loop-place.place-index (search rules)) in let a = c.args in bounding_one a.literals.now a.places.now a.bounds.now c.loop-place.place-index c.loop-place.bounds c.loop-place.invariant c.loop-place-test.true c.requires.1 _ row.left c.if-bound-gt-GREATEST.false (c.side_bound-bound.ensures c.if-bound-gt-GREATEST.false)

pub returns : goal.returns
returns c = let a = c.args in (c.loop-place.invariant.long, c.loop-place.invariant.modest, λ z. bounding_all a.literals.now a.places.now a.bounds.now c.loop-place.place-index c.loop-place.bounds c.loop-place-test.false c.loop-place.invariant)
