-- `compare` meets its contract: by ranks where these are asked, and else by the codes as numbers. Assumes nothing.
use mathlib.Core.Path.{sym, ◌∙◌}
use Rattle.codes.proofs.Order.{are_two, below_names}
use Rattle.comparing.proofs.ByRank.{by_equality, by_codes, by_ranks}
use Rattle.comparing.proofs.compare.Goals as goal

pub returns-then-comparison-lt-LESS : goal.returns-then-comparison-lt-LESS
returns-then-comparison-lt-LESS c = λ names k. c.compare_numbers.ensures ∙ by_equality names _ _ _ c.if-comparison-lt-LESS.true

pub returns-then-first-lt-FIRST_NAME : goal.returns-then-first-lt-FIRST_NAME
returns-then-first-lt-FIRST_NAME c =
    λ names k. c.compare_numbers-then-first-lt-FIRST_NAME.ensures ∙ by_codes names _ _ _ _ (k.ranked c.if-comparison-lt-LESS.false) c.requires.0 c.requires.1 (below_names _ _ _ c.if-first-lt-FIRST_NAME.true)

pub rank_of-requires : goal.rank_of-requires
rank_of-requires c = (are_two _ _ _ (sym c.two_texts.ensures ∙ c.if-two_texts.true)).first

pub rank_of-requires-then-two_texts : goal.rank_of-requires-then-two_texts
rank_of-requires-then-two_texts c = (are_two _ _ _ (sym c.two_texts.ensures ∙ c.if-two_texts.true)).second

pub returns-then-two_texts : goal.returns-then-two_texts
returns-then-two_texts c =
    let order = c.if-comparison-lt-LESS.false in
    λ names k. c.compare_numbers-then-two_texts.ensures ∙ by_ranks names _ _ _ _ (k.ranked order) order (sym c.two_texts.ensures ∙ c.if-two_texts.true) _ _ c.rank_of.ensures c.rank_of-then-two_texts.ensures

pub returns : goal.returns
returns c =
    λ names k. c.compare_numbers-2.ensures ∙ by_codes names _ _ _ _ (k.ranked c.if-comparison-lt-LESS.false) c.requires.0 c.requires.1 (sym c.two_texts.ensures ∙ c.if-two_texts.false)
