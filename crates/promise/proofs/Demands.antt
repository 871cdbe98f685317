-- The third demand, of bytes: for a program and a candidate that are read, with room, with no more facts than are tested against every proper
-- subset where a rule has several heads, and with nothing out of range, the answer accepts exactly where the plain definition does, and what it shows is
-- what the demand says.
use mathlib.Core.Path.{◌≡◌, sym as inv, ap, ◌∙◌}
use mathlib.Core.Bool.{Bool, true, false, true≢false}
use mathlib.Core.Logic.{◌↔◌}
use mathlib.Core.List.{List, ◌++◌, map}
use Prim.Native.Nat.{ℕ}
use native.Mathlib.Omega.{arith}
use lib.ListN.{length, drop}
use Rattle.texts.specs.declared.place.Place.{Place}
use Rattle.meaning.specs.Rules.{Bytes, Fact, Rule, disjunctive}
use Rattle.meaning.specs.Values.{Value, values}
use Rattle.meaning.specs.Instances.{Set}
use Rattle.meaning.specs.AnswerSets.{Broken, Accepted}
use Rattle.meaning.specs.Verdicts.{Verdict, by_rounds, by_subsets, way, HasRounds, RoundsBy, MeansAccepted, MeansUnsatisfied, SmallerSet, LastLevel, LeastNumber, ShownBy, MeansSmaller, MeansBy, Means}
use Rattle.meaning.specs.Verdicts as meant
use Rattle.meaning.proofs.Settled.{first_breaks, not_both}
use Rattle.meaning.proofs.Values.{value_laws}
use Rattle.grammar.specs.Trees.{Program}
use Rattle.grammar.specs.Abstraction.{rules_for, facts_for}
use Rattle.stages.specs.Stage.{Outcome, passed, without}
use Rattle.stages.proofs.Unique.{then_on, refuse_one, first_one}
use Rattle.program.proofs.Unique.{program_one}
use Rattle.output.specs.Output.{facts}
use Rattle.output.proofs.Unique.{output_one}
use Rattle.promise.specs.Answer.{Answer, accepted, unsatisfied, smaller, Result, positions, says, result}
use Rattle.promise.specs.Cases.{TooManyTested}
use Rattle.promise.specs.Judged.{VerdictStage, judged}
use Rattle.promise.specs.Answered.{Answered}
use Rattle.promise.specs.Ready.{Ready}

-- 12 is given to no program whose rules have one head at most, whatever the facts
pub single_tested : (P : List (Rule Value)) (I : List (Fact Value)) → disjunctive P ≡ false → ¬ TooManyTested P I
single_tested P I single m = true≢false (inv m.several ∙ single)

-- an answer that says a verdict which means what it says
pub record Shown (the_verdict : Verdict → Type 0) (places : List ℕ) (a : Answer) (left : List ℕ) : Type 0 where
  pub verdict : Verdict
  pub means : the_verdict verdict
  pub so : record { answer = a; places = left } ≡ says places verdict

module _ (the_program the_output : Bytes) (code : ℕ) (places : List ℕ) (c : Program false) (line : Place) (fs : Program true) (ready : Ready the_program the_output code places c line fs) where
  judged_shown : (o : Outcome Result) → VerdictStage (rules_for c) (facts_for fs) places o → (a : Answer) (left : List ℕ) → record { answer = a; places = left } ≡ result places o → Shown (Means values (rules_for c) (facts_for fs)) places a left
  unfolding result
  judged_shown o (judged v h) a left e = record { verdict = v; means = h; so = e }

  -- the answer is a verdict that means what it says
  pub shown : (a : Answer) (left : List ℕ) → Answered the_program the_output code places a left → Shown (Means values (rules_for c) (facts_for fs)) places a left
  shown a left h =
      let read = ready.read in
      let behind_program = then_on _ _ (program_one the_program) c read.program_read _ h.checked in
      let behind_output = then_on _ _ (output_one the_output) (facts line fs) read.output_read _ behind_program in
      let behind_code = then_on _ _ (refuse_one _ _ _) tt (passed (λ d. d read.agrees)) _ behind_output in
      let behind_clash = then_on _ _ (first_one _ _) tt (without ready.distinct) _ behind_code in
      let behind_room = then_on _ _ (refuse_one _ _ _) tt (passed (λ k. absurd (omega (arith, k, ready.room)))) _ behind_clash in
      let behind_tested = then_on _ _ (refuse_one _ _ _) tt (passed ready.tested) _ behind_room in
      let behind_range = then_on _ _ (first_one _ _) tt (without ready.in_range) _ behind_tested in
      judged_shown _ behind_range a left h.so

  abbrev Theirs : Verdict → Type 0
  Theirs = Means values (rules_for c) (facts_for fs)

  is_accepted : (a : Answer) (left : List ℕ) (v : Verdict) → Theirs v → record { answer = a; places = left } ≡ says places v → Accepted values (rules_for c) (facts_for fs) → (n k : ℕ) × (a ≡ accepted n k)
  unfolding says Means MeansBy
  is_accepted a left (meant.accepted n k ks) m e h = (n, k, ap (λ (r : Result). r.answer) e)
  is_accepted a left (meant.unsatisfied r ps) m e h = absurd (h.unbroken (first_breaks values value_laws (rules_for c) (facts_for fs) m.rule_before m.positions_before m.first_broken))
  is_accepted a left (meant.smaller bs) m e h = absurd (not_both values value_laws (rules_for c) (facts_for fs) m.set h m.is_smaller)

  shows_accepted : (n k : ℕ) (left : List ℕ) (v : Verdict) → Theirs v → record { answer = accepted n k; places = left } ≡ says places v → (ks : List ℕ) × MeansAccepted (way (rules_for c)) values (rules_for c) (facts_for fs) n k ks × (left ≡ ks ++ drop (length ks) places)
  unfolding says Means MeansBy
  shows_accepted n k left (meant.accepted m j ks) h e =
      let answers : accepted n k ≡ accepted m j = ap (λ (r : Result). r.answer) e in
      let p : n ≡ m = cc in
      let q : k ≡ j = cc in
      (ks, rw (p, q) h, ap (λ (r : Result). r.places) e)
  shows_accepted n k left (meant.unsatisfied r ps) h e = absurd (let answers : accepted n k ≡ unsatisfied r ps = ap (λ (r : Result). r.answer) e in let z : ◌≡◌ {A = ℕ} 0 1 = cc in omega arith)
  shows_accepted n k left (meant.smaller bs) h e = absurd (let answers : accepted n k ≡ smaller (positions 1 bs) = ap (λ (r : Result). r.answer) e in let z : ◌≡◌ {A = ℕ} 0 1 = cc in omega arith)

  -- the answer accepts exactly where the plain definition does
  pub accepted_exactly : (a : Answer) (left : List ℕ) → Answered the_program the_output code places a left → ((n k : ℕ) × (a ≡ accepted n k)) ↔ Accepted values (rules_for c) (facts_for fs)
  accepted_exactly a left h =
      let s = shown a left h in
      (λ x. (shows_accepted x.0 x.1 left s.verdict s.means (rw (← x.2) s.so)).1.is_accepted, λ k. is_accepted a left s.verdict s.means s.so k)

  -- an acceptance: the number of atoms, and what the program asks of ROUNDS and of the rounds in the places, from the first on; later places are as
  -- they were
  pub accepted_shows : (n k : ℕ) (left : List ℕ) → Answered the_program the_output code places (accepted n k) left → (ks : List ℕ) × MeansAccepted (way (rules_for c)) values (rules_for c) (facts_for fs) n k ks × (left ≡ ks ++ drop (length ks) places)
  accepted_shows n k left h = let s = shown (accepted n k) left h in shows_accepted n k left s.verdict s.means s.so

  way_single : disjunctive (rules_for c) ≡ false → way (rules_for c) ≡ by_rounds
  unfolding way
  way_single e = rw e

  way_several : disjunctive (rules_for c) ≡ true → way (rules_for c) ≡ by_subsets
  unfolding way
  way_several e = rw e

  -- .. where no rule has several heads: ROUNDS, and each atom's round
  pub accepted_rounds : disjunctive (rules_for c) ≡ false → (n k : ℕ) (left : List ℕ) → Answered the_program the_output code places (accepted n k) left → (ks : List ℕ) × (n ≡ length (facts_for fs)) × HasRounds values (rules_for c) (facts_for fs) k ks × (left ≡ ks ++ drop (length ks) places)
  unfolding RoundsBy
  accepted_rounds single n k left h = let x = accepted_shows n k left h in (x.0, x.1.count, rw (way_single single) at x.1.given, x.2)

  -- .. where some rule has several heads: ROUNDS is zero, and every place is as it was
  pub accepted_unwritten : disjunctive (rules_for c) ≡ true → (n k : ℕ) (left : List ℕ) → Answered the_program the_output code places (accepted n k) left → (n ≡ length (facts_for fs)) × (k ≡ 0) × (left ≡ places)
  unfolding RoundsBy
  accepted_unwritten several n k left h = let x = accepted_shows n k left h in none x.0 x.1 x.2
    where
      none : (ks : List ℕ) → MeansAccepted (way (rules_for c)) values (rules_for c) (facts_for fs) n k ks → left ≡ ks ++ drop (length ks) places → (n ≡ length (facts_for fs)) × (k ≡ 0) × (left ≡ places)
      none ks m e =
          let g : RoundsBy by_subsets values (rules_for c) (facts_for fs) k ks = rw (way_several several) at m.given in
          (m.count, g.is_zero, e ∙ ap (λ (l : List ℕ). l ++ drop (length l) places) g.unwritten)

  shows_unsatisfied : (r : ℕ) (ps left : List ℕ) (v : Verdict) → Theirs v → record { answer = unsatisfied r ps; places = left } ≡ says places v → MeansUnsatisfied values (rules_for c) (facts_for fs) r ps × (left ≡ places)
  unfolding says Means MeansBy
  shows_unsatisfied r ps left (meant.accepted m j ks) h e = absurd (let answers : unsatisfied r ps ≡ accepted m j = ap (λ (r : Result). r.answer) e in let z : ◌≡◌ {A = ℕ} 0 1 = cc in omega arith)
  shows_unsatisfied r ps left (meant.unsatisfied q qs) h e =
      let answers : unsatisfied r ps ≡ unsatisfied q qs = ap (λ (r : Result). r.answer) e in
      let p : r ≡ q = cc in
      let s : ps ≡ qs = cc in
      (rw (p, s) h, ap (λ (r : Result). r.places) e)
  shows_unsatisfied r ps left (meant.smaller bs) h e = absurd (let answers : unsatisfied r ps ≡ smaller (positions 1 bs) = ap (λ (r : Result). r.answer) e in let z : ◌≡◌ {A = ℕ} 0 1 = cc in omega arith)

  -- a rejection: the first broken instance
  pub unsatisfied_shows : (r : ℕ) (ps left : List ℕ) → Answered the_program the_output code places (unsatisfied r ps) left → MeansUnsatisfied values (rules_for c) (facts_for fs) r ps × (left ≡ places)
  unsatisfied_shows r ps left h = let s = shown (unsatisfied r ps) left h in shows_unsatisfied r ps left s.verdict s.means s.so

  is_unsatisfied : (a : Answer) (left : List ℕ) (v : Verdict) → Theirs v → record { answer = a; places = left } ≡ says places v → Broken values (rules_for c) (facts_for fs) → (r : ℕ) × (ps : List ℕ) × (a ≡ unsatisfied r ps)
  unfolding says Means MeansBy
  is_unsatisfied a left (meant.accepted n k ks) m e b = absurd (m.is_accepted.unbroken b)
  is_unsatisfied a left (meant.unsatisfied r ps) m e b = (r, ps, ap (λ (r : Result). r.answer) e)
  is_unsatisfied a left (meant.smaller bs) m e b = absurd (m.unbroken b)

  -- .. exactly where an instance is broken
  pub unsatisfied_exactly : (a : Answer) (left : List ℕ) → Answered the_program the_output code places a left → ((r : ℕ) × (ps : List ℕ) × (a ≡ unsatisfied r ps)) ↔ Broken values (rules_for c) (facts_for fs)
  unsatisfied_exactly a left h =
      let s = shown a left h in
      (λ x. breaks x.0 x.1 (shows_unsatisfied x.0 x.1 left s.verdict s.means (rw (← x.2) s.so)).0, λ b. is_unsatisfied a left s.verdict s.means s.so b)
    where
      breaks : (r : ℕ) (ps : List ℕ) → MeansUnsatisfied values (rules_for c) (facts_for fs) r ps → Broken values (rules_for c) (facts_for fs)
      breaks r ps m = first_breaks values value_laws (rules_for c) (facts_for fs) m.rule_before m.positions_before m.first_broken

  shows_smaller : (ps left : List ℕ) (v : Verdict) → Theirs v → record { answer = smaller ps; places = left } ≡ says places v → (bs : List Bool) × (ps ≡ positions 1 bs) × MeansSmaller (way (rules_for c)) values (rules_for c) (facts_for fs) bs × (left ≡ places)
  unfolding says Means MeansBy
  shows_smaller ps left (meant.accepted m j ks) h e = absurd (let answers : smaller ps ≡ accepted m j = ap (λ (r : Result). r.answer) e in let z : ◌≡◌ {A = ℕ} 0 1 = cc in omega arith)
  shows_smaller ps left (meant.unsatisfied q qs) h e = absurd (let answers : smaller ps ≡ unsatisfied q qs = ap (λ (r : Result). r.answer) e in let z : ◌≡◌ {A = ℕ} 0 1 = cc in omega arith)
  shows_smaller ps left (meant.smaller bs) h e =
      let answers : smaller ps ≡ smaller (positions 1 bs) = ap (λ (r : Result). r.answer) e in
      let p : ps ≡ positions 1 bs = cc in
      (bs, p, h, ap (λ (r : Result). r.places) e)

  -- or, if none is broken, a smaller set that satisfies the reduct, the one that the program asks to be shown
  pub smaller_shows : (ps left : List ℕ) → Answered the_program the_output code places (smaller ps) left → (bs : List Bool) × (ps ≡ positions 1 bs) × MeansSmaller (way (rules_for c)) values (rules_for c) (facts_for fs) bs × (left ≡ places)
  smaller_shows ps left h = let s = shown (smaller ps) left h in shows_smaller ps left s.verdict s.means s.so

  -- .. where no rule has several heads: the last Lk, which lies inside every other subset that satisfies the reduct
  pub smaller_last : disjunctive (rules_for c) ≡ false → (ps left : List ℕ) → Answered the_program the_output code places (smaller ps) left → (J : Set Value) × (ps ≡ positions 1 (map J (facts_for fs))) × SmallerSet values (rules_for c) (facts_for fs) J × LastLevel values (rules_for c) (facts_for fs) J
  unfolding ShownBy
  smaller_last single ps left h =
      let x = smaller_shows ps left h in
      let m = x.2 in
      (m.set, x.1 ∙ ap (positions 1) m.is_kept, m.is_smaller, rw (way_single single) at m.shown)

  -- .. where some rule has several heads: of the proper subsets that satisfy the reduct, the one whose number is least
  pub smaller_least : disjunctive (rules_for c) ≡ true → (ps left : List ℕ) → Answered the_program the_output code places (smaller ps) left → (J : Set Value) × (ps ≡ positions 1 (map J (facts_for fs))) × SmallerSet values (rules_for c) (facts_for fs) J × LeastNumber values (rules_for c) (facts_for fs) J
  unfolding ShownBy
  smaller_least several ps left h =
      let x = smaller_shows ps left h in
      let m = x.2 in
      (m.set, x.1 ∙ ap (positions 1) m.is_kept, m.is_smaller, rw (way_several several) at m.shown)

  is_smaller : (a : Answer) (left : List ℕ) (v : Verdict) → Theirs v → record { answer = a; places = left } ≡ says places v → ¬ Broken values (rules_for c) (facts_for fs) → ¬ Accepted values (rules_for c) (facts_for fs) → (ps : List ℕ) × (a ≡ smaller ps)
  unfolding says Means MeansBy
  is_smaller a left (meant.accepted n k ks) m e b f = absurd (f m.is_accepted)
  is_smaller a left (meant.unsatisfied r ps) m e b f = absurd (b (first_breaks values value_laws (rules_for c) (facts_for fs) m.rule_before m.positions_before m.first_broken))
  is_smaller a left (meant.smaller bs) m e b f = (positions 1 bs, ap (λ (r : Result). r.answer) e)

  -- .. exactly where none is broken, and the plain definition does not accept
  pub smaller_exactly : (a : Answer) (left : List ℕ) → Answered the_program the_output code places a left → ((ps : List ℕ) × (a ≡ smaller ps)) ↔ ((¬ Broken values (rules_for c) (facts_for fs)) × (¬ Accepted values (rules_for c) (facts_for fs)))
  smaller_exactly a left h =
      let s = shown a left h in
      (λ x. neither (shows_smaller x.0 left s.verdict s.means (rw (← x.1) s.so)), λ n. is_smaller a left s.verdict s.means s.so n.0 n.1)
    where
      neither : {ps qs rs : List ℕ} → (bs : List Bool) × (ps ≡ positions 1 bs) × MeansSmaller (way (rules_for c)) values (rules_for c) (facts_for fs) bs × (qs ≡ rs) → (¬ Broken values (rules_for c) (facts_for fs)) × (¬ Accepted values (rules_for c) (facts_for fs))
      neither (bs, e, m, k) = (m.unbroken, λ f. not_both values value_laws (rules_for c) (facts_for fs) m.set f m.is_smaller)
