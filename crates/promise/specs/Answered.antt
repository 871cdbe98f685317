-- What the check answers, for any two texts, any code and any places: its stages, in their order.
use Rattle.std.specs.Prelude.{◌≡◌, true, false, List, ℕ, ◌<◌, length}
use Rattle.texts.specs.declared.place.Place.{Place}
use Rattle.texts.specs.Parts.{part}
use Rattle.meaning.specs.Rules.{Bytes}
use Rattle.grammar.specs.Trees.{Program}
use Rattle.grammar.specs.Abstraction.{rules_for, facts_for}
use Rattle.stages.specs.Parts.{program, output, Part, in_text, start_of}
use Rattle.stages.specs.Stage.{Outcome, on, Stage, ◌⟫◌, Is, Refuse, First}
use Rattle.rule_places.specs.Sentences.{sentence}
use Rattle.program.specs.Stage.{ProgramStage}
use Rattle.output.specs.Output.{Report, facts, claim_none, claim_unknown, on_line, OutputStage}
use Rattle.promise.specs.Answer.{Answer, claimed_none, claimed_unknown, Result, result}
use Rattle.promise.specs.Cases.{Clash, TooManyTested}
use Rattle.promise.specs.Judged.{Settled}

-- ---- the parts of rules and facts, each from its first token to its dot

abbrev pub rule_part : Bytes → ℕ → Part
rule_part text k = in_text program (sentence false text k)

abbrev pub fact_part : Bytes → Place → ℕ → Part
fact_part text line k = in_text output (on_line text line (sentence true (part text line) k))

-- ---- the stages

-- with ANSWER: 6 and 7; 9; 12; 8; the verdict
abbrev pub Candidate : (the_program the_output : Bytes) → List ℕ → Program false → Place → Program true → Stage Result
Candidate the_program the_output places c line fs =
    First (fact_part the_output line) (Clash (facts_for fs)) ⟫ λ _.
    Refuse 9 (start_of output) (length places < length (facts_for fs)) ⟫ λ _.
    Refuse 12 (start_of output) (TooManyTested (rules_for c) (facts_for fs)) ⟫ λ _.
    Settled (rule_part the_program) (rules_for c) (facts_for fs) places

-- by the report: a candidate, or what is only claimed
abbrev pub Reported : (the_program the_output : Bytes) → List ℕ → Program false → Report → Stage Result
Reported the_program the_output places c (facts line fs) = Candidate the_program the_output places c line fs
Reported the_program the_output places c claim_none = Is (on (record { answer = claimed_none; places = places }))
Reported the_program the_output places c claim_unknown = Is (on (record { answer = claimed_unknown; places = places }))

-- the solver's code that goes with each report
abbrev pub code_of : Report → ℕ
code_of (facts line fs) = 10
code_of claim_none = 20
code_of claim_unknown = 1

-- the program's 1 to 5; the output's 1 to 4; 10; then by the report
abbrev pub Check : (the_program the_output : Bytes) (code : ℕ) → List ℕ → Stage Result
Check the_program the_output code places =
    ProgramStage the_program ⟫ λ c.
    OutputStage the_output ⟫ λ r.
    Refuse 10 (start_of output) (¬ (code ≡ code_of r)) ⟫ λ _.
    Reported the_program the_output places c r

-- the answer a, and what it leaves in the places, are those of an outcome that the stages may have
pub record Gives (S : Stage Result) (places : List ℕ) (a : Answer) (left : List ℕ) : Type 0 where
  pub outcome : Outcome Result
  pub checked : S outcome
  pub so : record { answer = a; places = left } ≡ result places outcome

-- what `check` promises. No input has two answers (`answered_unique`)
abbrev pub Answered : (the_program the_output : Bytes) (code : ℕ) (places : List ℕ) → Answer → List ℕ → Type 0
Answered the_program the_output code places a left = Gives (Check the_program the_output code places) places a left
