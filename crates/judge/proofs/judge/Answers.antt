-- `judge` meets its contract: the search for operations that leave the range, then the verdict. Assumes nothing.
use mathlib.Core.Path.{refl, sym, ◌∙◌}
use borrow.Author.Rules.{rules}
use Rattle.judge.proofs.Verdicts.{judged_over, over_at, over_none, cut_wide}
use Rattle.judge.proofs.judge.Goals as goal

pub largest-most-requires : goal.largest-most-requires
largest-most-requires c = rw c.facts.ensures c.requires.0.fact_table

pub first_stop-over-requires : goal.first_stop-over-requires
first_stop-over-requires c = let largest = rw c.facts.ensures at c.largest-most.ensures in (record { tables = c.requires.0; modest = largest.0; largest = largest.1 }, search rules)

pub returns-then-over-total : goal.returns-then-over-total
returns-then-over-total c = λ names k. judged_over names _ _ _ _ _ _ (over_at _ _ _ _ _ _ c.first_stop-over.ensures names k refl c.if-over-total.true)

pub tested-requires : goal.tested-requires
tested-requires c =
    let largest = rw c.facts.ensures at c.largest-most.ensures in
    (record { tables = c.requires.0; modest = largest.0; largest = largest.1 }, refl, c.requires.3 c.if-several.true, sym c.requires.2 ∙ c.if-several.true)

pub returns-then-several : goal.returns-then-several
returns-then-several c = λ names k. c.tested.ensures c.args.rounds.now names k (over_none _ _ _ _ _ _ c.first_stop-over.ensures names k refl c.if-over-total.false)

pub verdict-requires : goal.verdict-requires
verdict-requires c =
    let largest = rw c.facts.ensures at c.largest-most.ensures in
    (record { tables = c.requires.0; modest = largest.0; largest = largest.1 }, refl, cut_wide c.args.count 1_024 c.requires.0.fact_table.few, c.requires.1, sym c.requires.2 ∙ c.if-several.false)

pub returns : goal.returns
returns c = λ names k. c.verdict.ensures names k (over_none _ _ _ _ _ _ c.first_stop-over.ensures names k refl c.if-over-total.false)
