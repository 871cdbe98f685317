-- ROUNDS is at most the number of atoms, of every answer: the rules of a program that is read are safe, and a candidate that is accepted breaks no
-- instance of them. Where some rule has several heads it is zero.
use mathlib.Core.Path.{◌≡◌, refl, ap}
use mathlib.Core.Bool.{Bool, true, false, cond}
use mathlib.Core.List.{List}
use Prim.Native.Nat.{ℕ, ◌≤◌}
use native.Mathlib.Omega.{arith}
use lib.ListN.{length}
use Rattle.meaning.specs.Sets.{every}
use Rattle.meaning.specs.Rules.{Bytes, Fact, Rule, disjunctive}
use Rattle.meaning.specs.Values.{Value, values}
use Rattle.meaning.specs.Safety.{safe}
use Rattle.meaning.specs.AnswerSets.{Broken}
use Rattle.meaning.specs.Verdicts.{Verdict, by_rounds, by_subsets, way, RoundsBy, MeansBy, Means}
use Rattle.meaning.specs.Verdicts as meant
use Rattle.meaning.proofs.Values.{value_laws}
use Rattle.meaning.proofs.Rounds as meaning_rounds
use Rattle.grammar.specs.Trees.{Program}
use Rattle.grammar.specs.Abstraction.{rules_for, facts_for}
use Rattle.stages.specs.Stage.{Outcome, on, stop, goes}
use Rattle.stages.proofs.Unique.{on_inj}
use Rattle.program.specs.Stage.{ProgramStage}
use Rattle.program.proofs.Safe.{read_is_safe}
use Rattle.output.specs.Output.{Report, facts, claim_none, claim_unknown}
use Rattle.promise.specs.Answer.{Answer, Result, says, result, fields}
use Rattle.promise.specs.Judged.{VerdictStage, judged}
use Rattle.promise.specs.Answered.{Reported, Check, Answered}

-- with a kind that names neither both are zero
abbrev AtMost : Answer → Type 0
AtMost a = (fields a).rounds ≤ (fields a).atoms

module _ (places : List ℕ) (P : List (Rule Value)) (I : List (Fact Value)) (all_safe : every safe P ≡ true) where
  given_at_most : (b : Bool) → disjunctive P ≡ b → ¬ Broken values P I → (k : ℕ) (ks : List ℕ) → RoundsBy (cond b by_subsets by_rounds) values P I k ks → k ≤ length I
  unfolding RoundsBy
  given_at_most true e unbroken k ks h = omega (arith, h.is_zero)
  given_at_most false e unbroken k ks h = meaning_rounds.rounds_at_most values value_laws P I all_safe unbroken e k h.is_rounds

  says_at_most : (v : Verdict) → Means values P I v → AtMost (says places v).answer
  unfolding says Means MeansBy way
  says_at_most (meant.accepted n k ks) m = omega (arith, m.count, given_at_most (disjunctive P) refl m.is_accepted.unbroken k ks m.given)
  says_at_most (meant.unsatisfied r ps) m = omega arith
  says_at_most (meant.smaller bs) m = omega arith

  judged_at_most : (r : Result) (o : Outcome Result) → o ≡ on r → VerdictStage P I places o → AtMost r.answer
  judged_at_most r o e (judged v h) = let z : says places v ≡ r = on_inj e in rw (← z) (says_at_most v h)

module _ (the_program the_output : Bytes) (code : ℕ) (places : List ℕ) where
  reported_at_most : (report : Report) (c : Program false) → ProgramStage the_program (on c) → (r : Result) → Reported the_program the_output places c report (on r) → AtMost r.answer
  reported_at_most (facts line fs) c read r (goes u _ h (goes v _ k (goes w _ l (goes x _ m j)))) = judged_at_most places (rules_for c) (facts_for fs) (read_is_safe the_program c read) r _ refl j
  reported_at_most claim_none c read r h = rw (on_inj h) (omega arith)
  reported_at_most claim_unknown c read r h = rw (on_inj h) (omega arith)

  outcome_at_most : (o : Outcome Result) → Check the_program the_output code places o → AtMost (result places o).answer
  unfolding result
  outcome_at_most (stop n p) h = omega arith
  outcome_at_most (on r) (goes c _ read (goes report _ k (goes u _ l j))) = reported_at_most report c read r j

  pub rounds_at_most : (a : Answer) (left : List ℕ) → Answered the_program the_output code places a left → (fields a).rounds ≤ (fields a).atoms
  rounds_at_most a left h = rw (ap (λ (r : Result). r.answer) h.so) (outcome_at_most h.outcome h.checked)
