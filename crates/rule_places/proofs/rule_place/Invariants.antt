-- `rule_place` meets its contract. The invariant: so many dots are passed, and here, where reading stands, the tokens behind them begin.
-- Assumes nothing.
use mathlib.Core.Bool.{false}
use Rattle.texts.specs.Place.{Stands}
use Rattle.rule_places.proofs.Dots.{Reached}
use Rattle.rule_places.proofs.rule_place.Given as goal

abbrev pub invariant-loop : goal.invariant-loop
invariant-loop l = Stands l.text l.at × Reached false l.text l.counter l.at.start
