-- `rule_place` meets its contract. The invariant: so many dots are passed, and here, where reading stands, the tokens behind them begin.
-- Assumes nothing.
use native.Mathlib.Omega.{arith}
use mathlib.Core.Bool.{false}
use mathlib.Core.Path.{◌≡◌, ap, ◌∙◌}
use Rattle.texts.proofs.Counting.{start_stands}
use Rattle.rule_places.specs.Sentences.{sentence}
use Rattle.rule_places.proofs.Dots.{reached_start, reached_on, reached_sentence}
use Rattle.rule_places.proofs.rule_place.Goals as goal

pub loop-init : goal.loop-init
loop-init c = (start_stands _, reached_start _ _)

pub dot_end-at-requires : goal.dot_end-at-requires
dot_end-at-requires c = c.loop.invariant.0

pub loop-preserved : goal.loop-preserved
loop-preserved c =
    (c.dot_end-at.ensures.1, rw c.dot_end-at.ensures.0 (reached_on false c.args.text.now c.loop.counter c.loop.at.start c.loop.invariant.1))

pub to_dot-requires : goal.to_dot-requires
to_dot-requires c = c.loop.invariant.0

pub returns : goal.returns
returns c =
    let all : c.loop.counter ≡ c.args.k = omega arith in
    c.to_dot.ensures ∙ reached_sentence false c.args.text.now c.loop.counter c.loop.at.start c.loop.invariant.1 ∙ ap (sentence false c.args.text.now) all
