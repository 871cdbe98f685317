-- `term_bound` meets its contract: a value, and a variable. Assumes nothing.
use mathlib.Core.Path.{refl}
use Rattle.magnitudes.proofs.Bounds.{constant_within, variable_within}
use Rattle.magnitudes.proofs.term_bound.Goals as goal

pub returns-then-term-ge-NO_VALUE : goal.returns-then-term-ge-NO_VALUE
returns-then-term-ge-NO_VALUE c = let a = c.args in constant_within a.term a.bounds.now _ c.if-term-ge-NO_VALUE.true c.size.ensures

pub returns : goal.returns
returns c = let a = c.args in variable_within a.term a.bounds.now _ c.requires.1 c.if-term-ge-NO_VALUE.false refl
