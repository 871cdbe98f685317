-- `bound::term_bound` meets its contract. Assumes nothing.
use borrow.Author.Tests.{lt-ltb, le-ltb}
use Rattle.meaning.specs.Safety.{term_bound}
use Rattle.tables.specs.Rows.{term_of}
use Rattle.rulesafety.specs.Bound.{bits_of}
use Rattle.rulesafety.proofs.bound.term_bound.Goals as goal

pub returns-then-code-ge-NO_VALUE : goal.returns-then-code-ge-NO_VALUE
unfolding term_bound term_of
returns-then-code-ge-NO_VALUE c = rw (le-ltb _ _ c.if-code-ge-NO_VALUE.true)

pub returns : goal.returns
unfolding term_bound term_of bits_of
returns c = rw (lt-ltb _ _ c.if-code-ge-NO_VALUE.false)
