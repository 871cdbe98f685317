-- Two answers for one input, with what they leave in the places, are equal.
use mathlib.Core.Path.{◌≡◌, sym as inv, ap, ◌∙◌}
use mathlib.Core.Bool.{true, false}
use mathlib.Core.List.{List}
use Prim.Native.Nat.{ℕ}
use Rattle.texts.specs.declared.place.Place.{Place}
use Rattle.meaning.specs.Rules.{Bytes}
use Rattle.grammar.specs.Trees.{Program}
use Rattle.stages.proofs.Unique.{One, then_one, is_one, refuse_one, first_one}
use Rattle.program.proofs.Unique.{program_one}
use Rattle.output.specs.Output.{Report, facts, claim_none, claim_unknown}
use Rattle.output.proofs.Unique.{output_one}
use Rattle.promise.specs.Answer.{Answer, Result, result}
use Rattle.promise.specs.Answered.{Candidate, Reported, Check, Answered}
use Rattle.promise.proofs.Judged.{settled_one}

module _ (the_program the_output : Bytes) (places : List ℕ) where
  pub candidate_one : (c : Program false) (line : Place) (fs : Program true) → One (Candidate the_program the_output places c line fs)
  candidate_one c line fs = then_one _ _ (first_one _ _) (λ u. then_one _ _ (refuse_one _ _ _) (λ v. then_one _ _ (refuse_one _ _ _) (λ w. settled_one _ _ _ _)))

  pub reported_one : (c : Program false) (r : Report) → One (Reported the_program the_output places c r)
  reported_one c (facts line fs) = candidate_one c line fs
  reported_one c claim_none = is_one _
  reported_one c claim_unknown = is_one _

  pub check_one : (code : ℕ) → One (Check the_program the_output code places)
  check_one code = then_one _ _ (program_one the_program) (λ c. then_one _ _ (output_one the_output) (λ r. then_one _ _ (refuse_one _ _ _) (λ u. reported_one c r)))

  -- the answer and the final places are determined
  pub answered_unique : (code : ℕ) (a b : Answer) (x y : List ℕ) → Answered the_program the_output code places a x → Answered the_program the_output code places b y → (a ≡ b) × (x ≡ y)
  answered_unique code a b x y h k =
      let e : h.outcome ≡ k.outcome = check_one code _ _ h.checked k.checked in
      let z : ◌≡◌ {A = Result} (record { answer = a; places = x }) (record { answer = b; places = y }) = h.so ∙ ap (result places) e ∙ inv k.so in
      (ap (λ r. r.answer) z, ap (λ r. r.places) z)
