-- The ways through `check` and `reported`, each by what its callees say.
use mathlib.Core.Path.{◌≡◌, refl, sym as inv, ◌∙◌}
use mathlib.Core.Bool.{Bool, true, false, not, true≢false}
use mathlib.Core.List.{List}
use Prim.Native.Nat.{ℕ}
use borrow.Author.Tests.{eqb-true, eq-eqb}
use lib.Dec.{eqb}
use Rattle.std.specs.Prelude.{Ok, Err}
use Rattle.texts.specs.declared.place.Place.{Place}
use Rattle.texts.specs.Place.{text_start}
use Rattle.texts.specs.declared.refusal.Refusal.TheVariants.{Disagreement}
use Rattle.texts.specs.declared.refusal.Refused.{Refused}
use Rattle.texts.specs.Refusal.{number_of}
use Rattle.meaning.specs.Rules.{Bytes}
use Rattle.meaning.proofs.Booleans.{not_true, not_false}
use Rattle.grammar.specs.Trees.{Program}
use Rattle.grammar.specs.Abstraction.{rules_for, facts_for}
use Rattle.stages.specs.Parts.{in_text}
use Rattle.stages.specs.Stage.{Outcome, on, stop, stops, goes, given, passed}
use Rattle.program.specs.Stage.{ProgramStage}
use Rattle.report.specs.declared.word.Word.{Word}
use Rattle.report.specs.declared.word.Word.TheVariants as words
use Rattle.report.specs.Word.{agrees}
use Rattle.output.specs.declared.OutputRead.{OutputRead}
use Rattle.output.specs.Output.{Report, facts, claim_none, claim_unknown, OutputStage}
use Rattle.output.specs.Answers.{ReadsOutput}
use Rattle.output.proofs.Uses.{Says as Reports, output_refused, output_says}
use Rattle.promise.specs.Answer as paper
use Rattle.promise.specs.Answered.{Reported, code_of, Check}
use Rattle.fields.specs.declared.answer.Text.TheVariants.{Program as InProgram, Output as InOutput}
use Rattle.fields.specs.declared.answer.Answer.TheVariants.{ClaimedNone, ClaimedUnknown}
use Rattle.fields.specs.declared.answer.Answer.{Answer}
use Rattle.fields.specs.Values.{of_fault}
use Rattle.fields.specs.Parts.{text_of}
use Rattle.fields.specs.Checked.{Answers}
use Rattle.candidate.specs.Facts.{Behind}
use Rattle.checker.specs.Standing.{BehindProgram}
use Rattle.fields.proofs.Saying.{none_says, unknown_says}
use Rattle.fields.proofs.Answering.{refuses_fault, hands_on, answers_as}

module _ (the_program the_output : Bytes) (code : ℕ) (places : List ℕ) where
  -- ---- the program

  -- it is refused
  pub by_program : (fault : Refused) → ProgramStage the_program (stop (number_of fault.refusal) (in_text (text_of InProgram) fault.place)) → (a : Answer) → a ≡ of_fault InProgram fault → Answers (Check the_program the_output code places) places a places
  by_program fault h a e = refuses_fault _ places InProgram fault (stops _ _ h) a e

  -- it is read
  pub by_rules : (c : Program false) → ProgramStage the_program (on c) → (a : Answer) (left : List ℕ) → Answers (BehindProgram the_program the_output code places c) places a left → Answers (Check the_program the_output code places) places a left
  by_rules c h = answers_as (BehindProgram the_program the_output code places c) places (Check the_program the_output code places) (λ o k. goes c o h k)

  -- ---- the output, behind a program that is read

  module _ (c : Program false) where
    abbrev Here : Answer → List ℕ → Type 0
    Here = Answers (BehindProgram the_program the_output code places c) places

    -- it is refused
    pub by_output : (fault : Refused) → ReadsOutput the_output (Err fault) → (a : Answer) → a ≡ of_fault InOutput fault → Here a places
    by_output fault read a e = refuses_fault _ places InOutput fault (stops _ _ (output_refused the_output fault read)) a e

    module _ (s : OutputRead) (read : ReadsOutput the_output (Ok s)) where
      abbrev Reporting : Word → Type 0
      Reporting w = (x : Report) × OutputStage the_output (on x) × (agrees w code ≡ eqb code (code_of x))

      report_of : (w : Word) → Reports the_output s.count w → Reporting w
      report_of words.Answer h = (facts h.0 h.1, h.3, refl)
      report_of words.Inconsistent h = (claim_none, h, refl)
      report_of words.Unknown h = (claim_unknown, h, refl)

      -- code and report disagree
      pub by_code : (b : Bool) → b ≡ agrees s.word code → not b ≡ true → (a : Answer) → a ≡ of_fault InOutput (record { refusal = Disagreement; place = text_start }) → Here a places
      by_code b agreeing n a e =
          let x = report_of s.word (output_says the_output s read) in
          refuses_fault _ places InOutput (record { refusal = Disagreement; place = text_start }) (goes x.0 _ x.1 (stops _ _ (given (λ f. true≢false (inv (eq-eqb code (code_of x.0) f) ∙ inv x.2 ∙ inv agreeing ∙ not_true b n))))) a e

      -- they agree
      agreed : (x : Report) → eqb code (code_of x) ≡ true → OutputStage the_output (on x) → (o : Outcome paper.Result) → Reported the_program the_output places c x o → BehindProgram the_program the_output code places c o
      agreed x t h o k = goes x _ h (goes tt _ (passed (λ f. f (eqb-true code (code_of x) t))) k)

      module _ (b : Bool) (agreeing : b ≡ agrees s.word code) (n : not b ≡ false) where
        -- what is only claimed
        pub by_none : s.word ≡ words.Inconsistent → Here ClaimedNone places
        by_none e =
            let h : Reports the_output s.count words.Inconsistent = rw e at (output_says the_output s read) in
            hands_on _ places paper.claimed_none places (agreed claim_none (rw e at (inv agreeing ∙ not_false b n)) h _ refl) _ none_says

        pub by_unknown : s.word ≡ words.Unknown → Here ClaimedUnknown places
        by_unknown e =
            let h : Reports the_output s.count words.Unknown = rw e at (output_says the_output s read) in
            hands_on _ places paper.claimed_unknown places (agreed claim_unknown (rw e at (inv agreeing ∙ not_false b n)) h _ refl) _ unknown_says

        -- a candidate
        pub by_candidate : s.word ≡ words.Answer → (line : Place) (fs : Program true) → OutputStage the_output (on (facts line fs)) → (a : Answer) (left : List ℕ) → Answers (Behind the_program the_output line places (rules_for c) (facts_for fs)) places a left → Here a left
        by_candidate e line fs h = answers_as (Behind the_program the_output line places (rules_for c) (facts_for fs)) places (BehindProgram the_program the_output code places c) (agreed (facts line fs) (rw e at (inv agreeing ∙ not_false b n)) h)
