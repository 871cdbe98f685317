-- The tables that reading an output fills: what is asked of them, and what they hold behind ANSWER.
use Rattle.std.specs.Prelude.{◌≡◌, true, List, ℕ, ◌≤◌, length, Result}
use Rattle.texts.specs.declared.place.Place.{Place}
use Rattle.texts.specs.declared.refusal.Refused.{Refused}
use Rattle.texts.specs.Sizes.{most_text}
use Rattle.meaning.specs.Rules.{Bytes}
use Rattle.grammar.specs.Trees.{count, Program}
use Rattle.grammar.specs.Sizes.{most_rules}
use Rattle.stages.specs.Stage.{on, Stage}
use Rattle.rows.specs.Growth.{Room}
use Rattle.factline.specs.Lines.{Filled}
use Rattle.output.specs.declared.OutputRead.{OutputRead}
use Rattle.output.specs.Output.{Report, OutputStage}
use Rattle.output.specs.Answers.{GivenBy}

-- names; the facts' rows; their predicates; where each starts in the output, and how long it is
pub record OutputTables : Type 0 where
  pub names : List ℕ
  pub facts : List ℕ
  pub predicates : List ℕ
  pub starts : List ℕ
  pub lengths : List ℕ

abbrev pub tables : (names facts predicates starts lengths : List ℕ) → OutputTables
tables names facts predicates starts lengths = record { names = names; facts = facts; predicates = predicates; starts = starts; lengths = lengths }

-- there is room for all facts of a line; and for as many names as the output has bytes, where it is within its size
pub record Lent (program output : Bytes) (t : OutputTables) : Type 0 where
  pub room : length output ≤ most_text → Room program output t.names (length output)
  pub facts_long : 9_216 ≤ length t.facts
  pub predicates_long : most_rules true ≤ length t.predicates
  pub starts_long : most_rules true ≤ length t.starts
  pub lengths_long : most_rules true ≤ length t.lengths

-- the tables after hold these facts of a line, n of them
abbrev pub FactsHeld : (program output : Bytes) → Place → Program true → OutputTables → ℕ → OutputTables → Type 0
FactsHeld program output line fs t n u =
    Filled program output line fs t.names t.facts t.predicates t.starts t.lengths n u.names u.facts u.predicates u.starts u.lengths

-- the answer is that of an outcome which the stage may have; where that is a line with its facts, the tables hold them
pub record FillsStage (S : Stage Report) (program output : Bytes) (t : OutputTables) (r : Result OutputRead Refused) (u : OutputTables) : Type 0 where
  pub given : GivenBy S r
  pub filled : (line : Place) (fs : Program true) → given.outcome ≡ on (Report.facts line fs) → FactsHeld program output line fs t (count fs) u

-- what `read_output` promises
abbrev pub FillsOutput : (program output : Bytes) → OutputTables → Result OutputRead Refused → OutputTables → Type 0
FillsOutput program output t r u = FillsStage (OutputStage output) program output t r u
