-- `several::several_heads` meets its contract. The invariant: no rule before this one has several heads. Assumes nothing.
use mathlib.Core.Path.{◌≡◌}
use mathlib.Core.Bool.{false}
use Rattle.meaning.specs.Rules.{disjunctive}
use Rattle.derivation.specs.Rounds.{rules_for}
use Rattle.judge.proofs.several.several_heads.Given as goal

abbrev pub invariant-loop-r : goal.invariant-loop-r
invariant-loop-r l = disjunctive (rules_for l.store l.r) ≡ false
