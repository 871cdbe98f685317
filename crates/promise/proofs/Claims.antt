-- What is only claimed is handed on exactly where the solver reports it, with its code; and only ACCEPTED writes.
use mathlib.Core.Path.{◌≡◌, refl, sym as inv, ap, ◌∙◌}
use mathlib.Core.Bool.{Bool, true, false}
use mathlib.Core.Logic.{◌↔◌}
use mathlib.Core.List.{List}
use Prim.Native.Nat.{ℕ}
use native.Mathlib.Omega.{arith}
use Rattle.meaning.specs.Rules.{Bytes, Fact, Rule}
use Rattle.meaning.specs.Values.{Value}
use Rattle.meaning.specs.Verdicts.{Verdict}
use Rattle.meaning.specs.Verdicts as meant
use Rattle.grammar.specs.Trees.{Program}
use Rattle.stages.specs.Stage.{Outcome, on, stop, goes, passed}
use Rattle.stages.proofs.Unique.{on_inj}
use Rattle.output.specs.Output.{Report, facts, claim_none, claim_unknown}
use Rattle.promise.specs.Answer.{Answer, refused, accepted, unsatisfied, smaller, claimed_none, claimed_unknown, Result, says, result}
use Rattle.promise.specs.Judged.{VerdictStage, judged}
use Rattle.promise.specs.Answered.{Reported, code_of, Check, Answered}
use Rattle.promise.specs.Refusals.{Read}
use Rattle.promise.proofs.Unique.{check_one}
use Rattle.promise.proofs.Numbers.{same_number}

-- no answer set, or none was found
abbrev pub claim : Bool → Report
claim true = claim_none
claim false = claim_unknown

abbrev pub claimed : Bool → Answer
claimed true = claimed_none
claimed false = claimed_unknown

-- an answer that only hands on a claim, by the claim
number : Answer → ℕ
number (refused n p) = 0
number (accepted n k) = 0
number (unsatisfied r ps) = 0
number (smaller ps) = 0
number claimed_none = 1
number claimed_unknown = 2

module _ (the_program the_output : Bytes) (code : ℕ) (places : List ℕ) where
  module _ (P : List (Rule Value)) (I : List (Fact Value)) where
    says_none : (v : Verdict) → number (says places v).answer ≡ 0
    unfolding says number
    says_none (meant.accepted n k ks) = refl
    says_none (meant.unsatisfied r ps) = refl
    says_none (meant.smaller bs) = refl

    judged_none : (r : Result) (o : Outcome Result) → o ≡ on r → VerdictStage P I places o → number r.answer ≡ 0
    judged_none r o e (judged v h) = let z : says places v ≡ r = on_inj e in rw (← z) (says_none v)

    says_writes : (v : Verdict) → ((n k : ℕ) → ¬ ((says places v).answer ≡ accepted n k)) → (says places v).places ≡ places
    unfolding says
    says_writes (meant.accepted n k ks) f = absurd (f n k refl)
    says_writes (meant.unsatisfied r ps) f = refl
    says_writes (meant.smaller bs) f = refl

    judged_writes : (r : Result) (o : Outcome Result) → o ≡ on r → VerdictStage P I places o → ((n k : ℕ) → ¬ (r.answer ≡ accepted n k)) → r.places ≡ places
    judged_writes r o e (judged v h) f = let z : says places v ≡ r = on_inj e in rw (← z) (says_writes v (λ n k g. f n k (rw (← z) g)))

  -- ---- what is only claimed

  report_of : (b : Bool) (report : Report) (c : Program false) (r : Result) → Reported the_program the_output places c report (on r) → r.answer ≡ claimed b → report ≡ claim b
  unfolding number
  report_of true (facts line fs) c r (goes u _ h (goes v _ k (goes w _ l (goes x _ m j)))) e = absurd (omega (arith, judged_none _ _ r _ refl j, ap number e))
  report_of false (facts line fs) c r (goes u _ h (goes v _ k (goes w _ l (goes x _ m j)))) e = absurd (omega (arith, judged_none _ _ r _ refl j, ap number e))
  report_of true claim_none c r h e = refl
  report_of false claim_none c r h e = absurd (omega (arith, ap number (ap (λ (z : Result). z.answer) (on_inj h)), ap number e))
  report_of true claim_unknown c r h e = absurd (omega (arith, ap number (ap (λ (z : Result). z.answer) (on_inj h)), ap number e))
  report_of false claim_unknown c r h e = refl

  claims : (b : Bool) (o : Outcome Result) → Check the_program the_output code places o → (result places o).answer ≡ claimed b → (c : Program false) × Read the_program the_output code c (claim b)
  unfolding result number
  claims true (stop n p) h e = absurd (omega (arith, ap number e))
  claims false (stop n p) h e = absurd (omega (arith, ap number e))
  claims b (on r) (goes c _ h (goes report _ k (goes u _ (passed agrees) j))) e =
      let f : report ≡ claim b = report_of b report c r j e in
      (c, record { program_read = h; output_read = rw f at k; agrees = rw f at (same_number code (code_of report) agrees) })

  claim_on : (b : Bool) (c : Program false) → Read the_program the_output code c (claim b) → Check the_program the_output code places (on (record { answer = claimed b; places = places }))
  claim_on true c r = goes c _ r.program_read (goes _ _ r.output_read (goes tt _ (passed (λ d. d r.agrees)) refl))
  claim_on false c r = goes c _ r.program_read (goes _ _ r.output_read (goes tt _ (passed (λ d. d r.agrees)) refl))

  claim_answer : (b : Bool) (o : Outcome Result) → o ≡ on (record { answer = claimed b; places = places }) → (result places o).answer ≡ claimed b
  unfolding result
  claim_answer b o e = rw e

  -- CLAIMED-NONE and CLAIMED-UNKNOWN, each exactly where program and output are read, the report is that claim, and the code goes with it
  pub claimed_exactly : (b : Bool) (a : Answer) (left : List ℕ) → Answered the_program the_output code places a left → (a ≡ claimed b) ↔ ((c : Program false) × Read the_program the_output code c (claim b))
  claimed_exactly b a left h =
      let so : a ≡ (result places h.outcome).answer = ap (λ r. r.answer) h.so in
      (λ e. claims b h.outcome h.checked (inv so ∙ e), λ x. so ∙ claim_answer b _ (check_one the_program the_output places code _ _ h.checked (claim_on b x.0 x.1)))

  -- ---- what is written

  reported_writes : (report : Report) (c : Program false) (r : Result) → Reported the_program the_output places c report (on r) → ((n k : ℕ) → ¬ (r.answer ≡ accepted n k)) → r.places ≡ places
  reported_writes (facts line fs) c r (goes u _ h (goes v _ k (goes w _ l (goes x _ m j)))) f = judged_writes _ _ r _ refl j f
  reported_writes claim_none c r h f = ap (λ (z : Result). z.places) (on_inj h)
  reported_writes claim_unknown c r h f = ap (λ (z : Result). z.places) (on_inj h)

  outcome_writes : (o : Outcome Result) → Check the_program the_output code places o → ((n k : ℕ) → ¬ ((result places o).answer ≡ accepted n k)) → (result places o).places ≡ places
  unfolding result
  outcome_writes (stop n p) h f = refl
  outcome_writes (on r) (goes c _ h (goes report _ k (goes u _ l j))) f = reported_writes report c r j f

  -- where the answer is not ACCEPTED, the places are as they were
  pub only_accepted_writes : (a : Answer) (left : List ℕ) → Answered the_program the_output code places a left → ((n k : ℕ) → ¬ (a ≡ accepted n k)) → left ≡ places
  only_accepted_writes a left h f = ap (λ r. r.places) h.so ∙ outcome_writes h.outcome h.checked (λ n k e. f n k (ap (λ r. r.answer) h.so ∙ e))
