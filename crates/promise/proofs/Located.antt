-- The part of every answer has the line and the column of its start: stage by stage, each part that a stage may hand back.
use mathlib.Core.Path.{◌≡◌, refl, sym as inv, ap, subst}
use mathlib.Core.Bool.{true, false}
use mathlib.Core.List.{List}
use Prim.Native.Nat.{ℕ, ◌+◌, ◌≤◌}
use native.Mathlib.Omega.{arith}
use lib.ListN.{length, length-take, length-drop}
use Rattle.texts.specs.Place.{Stands}
use Rattle.texts.specs.Parts.{part}
use Rattle.texts.proofs.Counting.{start_stands, from_stands}
use Rattle.meaning.specs.Rules.{Bytes, Fact, Rule}
use Rattle.meaning.specs.Values.{Value}
use Rattle.meaning.specs.Verdicts.{Verdict}
use Rattle.meaning.specs.Verdicts as meant
use Rattle.grammar.specs.Trees.{Program}
use Rattle.stages.specs.Parts.{Text, program, output, of_text, Part}
use Rattle.stages.specs.Stage.{Outcome, on, stop, stops, goes, given, first}
use Rattle.stages.proofs.Unique.{on_stop, on_inj}
use Rattle.program.specs.Stage.{ProgramStage}
use Rattle.program.proofs.Placed.{refused_placed}
use Rattle.rule_places.specs.Sentences.{sentence}
use Rattle.rule_places.proofs.Inside.{sentence_stands, sentence_inside}
use Rattle.output.specs.Output.{Report, facts, claim_none, claim_unknown, OutputStage}
use Rattle.output.proofs.Uses.{refusal, handed_on}
use Rattle.promise.specs.Answer.{Answer, Result, says, result, fields}
use Rattle.promise.specs.Judged.{VerdictStage, judged}
use Rattle.promise.specs.Answered.{Reported, Check, Answered}
use Rattle.promise.specs.Located.{Located}

module _ (the_program the_output : Bytes) (places : List ℕ) where
  abbrev Placed : Part → Type 0
  Placed p = Located the_program the_output p

  -- ---- refusals

  -- in whichever text the part is
  in_its_text : (x : Text) (p : Part) → p.text ≡ x → Stands (of_text the_program the_output x) p.place → Placed p
  in_its_text x p e h = subst (λ (y : Text). Stands (of_text the_program the_output y) p.place) (inv e) h

  program_located : (n : ℕ) (p : Part) → ProgramStage the_program (stop n p) → Placed p
  program_located n p h = let r = refused_placed the_program n p h in in_its_text program p (ap (λ (q : Part). q.text) r.within) r.stands

  output_located : (n : ℕ) (p : Part) → OutputStage the_output (stop n p) → Placed p
  output_located n p h = let r = refusal the_output h in in_its_text output p (ap (λ (q : Part). q.text) r.within) r.stands

  reported_located : (report : Report) → OutputStage the_output (on report) → (c : Program false) (n : ℕ) (p : Part) → Reported the_program the_output places c report (stop n p) → Placed p
  reported_located (facts line fs) o c n p (stops _ _ (first k _ x f)) =
      let bytes = part the_output line in
      let h = handed_on the_output o in
      let i = sentence_inside true bytes k in
      let l : length bytes ≤ line.len = simp (length-take, length-drop) (omega arith) in
      from_stands the_output (line.start + (sentence true bytes k).start) (sentence true bytes k).len (omega (arith, h.inside))
  reported_located (facts line fs) o c n p (goes u _ h (stops _ _ (given k))) = start_stands the_output
  reported_located (facts line fs) o c n p (goes u _ h (goes v _ k (stops _ _ (given l)))) = start_stands the_output
  reported_located (facts line fs) o c n p (goes u _ h (goes v _ k (goes w _ l (stops _ _ (first i _ x f))))) = sentence_stands false the_program i
  reported_located claim_none o c n p h = absurd (on_stop (inv h))
  reported_located claim_unknown o c n p h = absurd (on_stop (inv h))
  reported_located (facts line fs) o c n p (goes u _ h (goes v _ k (goes w _ l (goes a _ _ x12)))) = elim x12 [ ]

  -- ---- verdicts and claims, whose part is empty at the program's start

  judged_located : {P : List (Rule Value)} {I : List (Fact Value)} (r : Result) (o : Outcome Result) → o ≡ on r → VerdictStage P I places o → Placed (fields r.answer).part
  unfolding says
  judged_located r o e (judged v h) = let z : says places v ≡ r = on_inj e in rw (← z) (go v)
    where
      go : (v : Verdict) → Placed (fields (says places v).answer).part
      go (meant.accepted n k ks) = start_stands the_program
      go (meant.unsatisfied r ps) = start_stands the_program
      go (meant.smaller bs) = start_stands the_program

  handed_located : (report : Report) (c : Program false) (r : Result) → Reported the_program the_output places c report (on r) → Placed (fields r.answer).part
  handed_located (facts line fs) c r (goes u _ h (goes v _ k (goes w _ l (goes x _ m j)))) = judged_located r _ refl j
  handed_located claim_none c r h = rw (on_inj h) (start_stands the_program)
  handed_located claim_unknown c r h = rw (on_inj h) (start_stands the_program)

  -- ---- every answer

  module _ (code : ℕ) where
    outcome_located : (o : Outcome Result) → Check the_program the_output code places o → Placed (fields (result places o).answer).part
    unfolding result
    outcome_located (stop n p) (stops _ _ h) = program_located n p h
    outcome_located (stop n p) (goes c _ h (stops _ _ k)) = output_located n p k
    outcome_located (stop n p) (goes c _ h (goes r _ k (stops _ _ (given l)))) = start_stands the_output
    outcome_located (stop n p) (goes c _ h (goes r _ k (goes u _ l j))) = reported_located r k c n p j
    outcome_located (on r) (goes c _ h (goes report _ k (goes u _ l j))) = handed_located report c r j

    pub part_located : (a : Answer) (left : List ℕ) → Answered the_program the_output code places a left → Located the_program the_output (fields a).part
    part_located a left h = rw (ap (λ (r : Result). r.answer) h.so) (outcome_located h.outcome h.checked)
