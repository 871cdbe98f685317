-- `rule_row::put_numbers` meets its contract: seven numbers, and the rows of the equations and of the positive literals behind them.
-- Assumes nothing.
use mathlib.Core.Path.{◌≡◌, ◌∙◌}
use lib.ListN.{length}
use Rattle.grammar.specs.Sizes.{most_literals}
use Rattle.rulesafety.proofs.Numbers.{numbers_stored}
use borrow.Author.Rules.{rules}
use Rattle.rulesafety.proofs.rule_row.put_numbers.Goals as goal

pub returns : goal.returns
returns c =
    let a = c.args in
    let one : length a.numbers.equations.rows ≡ most_literals = search rules in
    let two : length a.numbers.positives.rows ≡ most_literals = search rules in
    numbers_stored a.rules.now a.number a.first a.numbers c.requires _ (c.put_row.ensures ∙ rw c.from.ensures) _ c.put_row-2.ensures one _ c.put_row-3.ensures two
