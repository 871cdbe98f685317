-- What is answered behind a program that is read, with its rules in the store.
use Rattle.std.specs.Prelude.{◌≡◌, false, List, ℕ, ◌+◌, ◌≤◌, min, length}
use Rattle.texts.specs.Sizes.{most_text}
use Rattle.meaning.specs.Rules.{Bytes}
use Rattle.names.specs.Table.{most_names}
use Rattle.rows.specs.Growth.{Room}
use Rattle.store.specs.Store.{store_size, literals_in, rules_in}
use Rattle.grammar.specs.Trees.{Program}
use Rattle.grammar.specs.Abstraction.{rules_for}
use Rattle.stages.specs.Parts.{Text, start_of}
use Rattle.stages.specs.Stage.{Stage, ◌⟫◌, Refuse}
use Rattle.output.specs.Output.{OutputStage}
use Rattle.promise.specs.Answer.{Result}
use Rattle.promise.specs.Answered.{Reported, code_of}
use Rattle.fields.specs.declared.answer.Answer.{Answer}
use Rattle.fields.specs.Checked.{Answers}
use Rattle.candidate.specs.Standing.{RulesHeld}

-- as many names as the two texts can have, where each is within its size
abbrev pub names_of_both : Bytes → Bytes → ℕ
names_of_both program output = min most_names (length program + length output)

-- the output's 1 to 4; 10; then by the report
abbrev pub BehindProgram : (program output : Bytes) (code : ℕ) → List ℕ → Program false → Stage Result
BehindProgram program output code places c =
    OutputStage output ⟫ λ r.
    Refuse 10 (start_of Text.output) (¬ (code ≡ code_of r)) ⟫ λ _.
    Reported program output places c r

-- the store stands for the rules of a program, and the table of names has room for those of the facts; all this beside an output within its size
pub record WithRules (program output : Bytes) (names store : List ℕ) (total : ℕ) : Type 0 where
  pub tree_of : Program false
  pub long : length store ≡ store_size
  pub held : length output ≤ most_text → RulesHeld program output names (rules_in store) (literals_in store) total (rules_for tree_of)
  pub room : length output ≤ most_text → Room program output names (length output)

abbrev pub AnswersRules : (program output : Bytes) (code : ℕ) (names store : List ℕ) (total : ℕ) → List ℕ → Answer → List ℕ → Type 0
AnswersRules program output code names store total places a left =
    (c : Program false) → (length output ≤ most_text → RulesHeld program output names (rules_in store) (literals_in store) total (rules_for c)) → Answers (BehindProgram program output code places c) places a left
