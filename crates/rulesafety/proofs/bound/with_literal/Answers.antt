-- `bound::with_literal` meets its contract. Assumes nothing.
use mathlib.Core.Path.{◌≡◌}
use Prim.Native.Nat.{◌+◌, ◌-◌, ◌*◌}
use native.Mathlib.Omega.{arith}
use lib.ListN.{length}
use Rattle.grammar.specs.Sizes.{most_variables}
use Rattle.tables.specs.Layout.{literal_stride, predicate_column, terms_column}
use Rattle.tables.specs.Rows.{arity, literal_column}
use Rattle.rulesafety.proofs.Adding.{other_adds, positive_adds}
use borrow.Author.Rules.{rules}
use Rattle.rulesafety.proofs.bound.with_literal.Goals as goal

pub returns-then-literals-row-ne-POSITIVE : goal.returns-then-literals-row-ne-POSITIVE
returns-then-literals-row-ne-POSITIVE c =
    let a = c.args in
    let room : length a.bound.bits ≡ most_variables = search rules in
    other_adds a.literals.now a.literal _ room c.if-literals-row-ne-POSITIVE.true

pub returns : goal.returns
returns c =
    let a = c.args in
    let terms = a.literal * literal_stride + terms_column in
    let count = arity (literal_column a.literals.now a.literal predicate_column) in
    let size : terms + count - terms ≡ count = omega arith in
    positive_adds a.literals.now a.literal _ _ c.if-literals-row-ne-POSITIVE.false (rw size at c.with_terms.ensures)
