-- The premises of the third demand: program and candidate are read, there is room for the result, the facts are not too many beside a rule with
-- several heads, so that 12 is not given, and no arithmetic leaves the range.
use Rattle.std.specs.Prelude.{true, false, List, ℕ, ◌≤◌, length}
use Rattle.texts.specs.declared.place.Place.{Place}
use Rattle.meaning.specs.Rules.{Bytes}
use Rattle.grammar.specs.Trees.{Program}
use Rattle.grammar.specs.Abstraction.{rules_for, facts_for}
use Rattle.output.specs.Output.{facts}
use Rattle.promise.specs.Cases.{TooManyTested, Leaves}
use Rattle.promise.specs.Refusals.{Read, Unclashing}

pub record Ready (the_program the_output : Bytes) (code : ℕ) (places : List ℕ) (c : Program false) (line : Place) (fs : Program true) : Type 0 where
  pub read : Read the_program the_output code c (facts line fs)
  pub distinct : Unclashing fs
  pub room : length (facts_for fs) ≤ length places
  pub tested : ¬ TooManyTested (rules_for c) (facts_for fs)
  pub in_range : (i n : ℕ) → ¬ Leaves (rules_for c) (facts_for fs) i n
