-- `bound::with_term` meets its contract. Assumes nothing.
use mathlib.Core.Path.{◌≡◌}
use lib.ListN.{length}
use Rattle.grammar.specs.Sizes.{most_variables}
use Rattle.rulesafety.proofs.Adding.{value_adds, variable_adds}
use borrow.Author.Rules.{rules}
use Rattle.rulesafety.proofs.bound.with_term.Goals as goal

pub returns-then-code-ge-NO_VALUE : goal.returns-then-code-ge-NO_VALUE
returns-then-code-ge-NO_VALUE c =
    let a = c.args in
    let room : length a.bound.bits ≡ most_variables = search rules in
    value_adds a.bound a.code room c.if-code-ge-NO_VALUE.true

pub returns : goal.returns
returns c =
    let a = c.args in
    let room : length a.bound.bits ≡ most_variables = search rules in
    variable_adds a.bound _ a.code room c.if-code-ge-NO_VALUE.false c.with_variable.ensures
