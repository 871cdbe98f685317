-- `alike` meets its contract: the predicates, and then the arguments. Assumes nothing.
use Rattle.clashes.proofs.Rows.{alike_not, parts_fit, alike_arguments}
use borrow.Author.Tests.{not-true, not-false}
use mathlib.Core.Path.{sym, ◌∙◌}
use Rattle.clashes.proofs.alike.Goals as goal

pub returns-then-not-related : goal.returns-then-not-related
returns-then-not-related c =
    let a = c.args in λ names. sym (alike_not a.facts.now _ a.opposed a.j a.k c.requires.1 c.requires.2 c.requires.3 names (sym c.related.ensures ∙ not-true _ c.if-not-related.true-raw))

pub same_values-requires : goal.same_values-requires
same_values-requires c =
    let a = c.args in parts_fit a.facts.now _ a.opposed a.j a.k c.requires.1 c.requires.2 c.requires.3 (sym c.related.ensures ∙ not-false _ c.if-not-related.false-raw)

pub returns : goal.returns
returns c =
    let a = c.args in λ names. alike_arguments a.facts.now _ a.opposed a.j a.k c.requires.1 c.requires.2 c.requires.3 (sym c.related.ensures ∙ not-false _ c.if-not-related.false-raw) names _ (c.same_values.ensures names)
