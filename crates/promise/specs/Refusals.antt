-- When the check refuses: the cases of the eleven numbers, 1 to 10 and 12, each with its part.
use Rattle.std.specs.Prelude.{◌≡◌, true, false, List, ℕ, ◌<◌, ◌≤◌, length}
use Rattle.texts.specs.declared.place.Place.{Place}
use Rattle.meaning.specs.Rules.{Bytes}
use Rattle.grammar.specs.Trees.{Program}
use Rattle.grammar.specs.Abstraction.{rules_for, facts_for}
use Rattle.stages.specs.Parts.{output, Part, start_of}
use Rattle.stages.specs.Stage.{on, stop, First}
use Rattle.program.specs.Stage.{ProgramStage}
use Rattle.output.specs.Output.{Report, facts, OutputStage}
use Rattle.promise.specs.Cases.{Clash, TooManyTested, Leaves}
use Rattle.promise.specs.Answered.{rule_part, fact_part, code_of}

-- program and output are read as these, and the code agrees
pub record Read (the_program the_output : Bytes) (code : ℕ) (c : Program false) (r : Report) : Type 0 where
  pub program_read : ProgramStage the_program (on c)
  pub output_read : OutputStage the_output (on r)
  pub agrees : code ≡ code_of r

-- a candidate whose facts are distinct, and consistent
abbrev pub Unclashing : Program true → Type 0
Unclashing fs = (i n : ℕ) → ¬ Clash (facts_for fs) i n

-- number n, with the part p
pub data Case (the_program the_output : Bytes) (code : ℕ) (places : List ℕ) : ℕ → Part → Type 0 where
  -- the program's 1 to 5
  of_program : (n : ℕ) (p : Part) → ProgramStage the_program (stop n p) → Case the_program the_output code places n p
  -- the program is read: the output's 1 to 4
  of_output : (c : Program false) → ProgramStage the_program (on c) → (n : ℕ) (p : Part) → OutputStage the_output (stop n p) → Case the_program the_output code places n p
  -- both are read: code and report disagree
  of_code : (c : Program false) → ProgramStage the_program (on c) → (r : Report) → OutputStage the_output (on r) → ¬ (code ≡ code_of r) → Case the_program the_output code places 10 (start_of output)
  -- ANSWER, and the code agrees: 6 or 7 at the first fact that repeats an earlier one, or differs from it only in sign
  of_facts : (c : Program false) (line : Place) (fs : Program true) → Read the_program the_output code c (facts line fs) → (n : ℕ) (p : Part) → First (fact_part the_output line) (Clash (facts_for fs)) (stop n p) → Case the_program the_output code places n p
  -- fewer places than facts
  of_room : (c : Program false) (line : Place) (fs : Program true) → Read the_program the_output code c (facts line fs) → Unclashing fs → length places < length (facts_for fs) → Case the_program the_output code places 9 (start_of output)
  -- a rule with several heads, and too many facts to be tested against every proper subset
  of_subsets : (c : Program false) (line : Place) (fs : Program true) → Read the_program the_output code c (facts line fs) → Unclashing fs → length (facts_for fs) ≤ length places → TooManyTested (rules_for c) (facts_for fs) → Case the_program the_output code places 12 (start_of output)
  -- 8 at the first rule of which some matching leaves the range
  of_range : (c : Program false) (line : Place) (fs : Program true) → Read the_program the_output code c (facts line fs) → Unclashing fs → length (facts_for fs) ≤ length places → ¬ TooManyTested (rules_for c) (facts_for fs) → (n : ℕ) (p : Part) → First (rule_part the_program) (Leaves (rules_for c) (facts_for fs)) (stop n p) → Case the_program the_output code places n p
