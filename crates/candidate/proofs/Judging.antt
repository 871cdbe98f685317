-- A judgement over the tables, and the answer that it gives, are those of the last stages: 8, or the verdict.
use mathlib.Core.Path.{◌≡◌, refl, sym, ap, ◌∙◌}
use mathlib.Core.Bool.{false}
use mathlib.Core.List.{List, ◌++◌}
use Prim.Native.Nat.{ℕ, suc, ◌+◌, ◌-◌, ◌≤◌}
use native.Mathlib.Numerals.{add-one}
use native.Mathlib.Omega.{arith}
use lib.ListN.{length, get_or, take, drop, take-append-drop, length-take, length-drop}
use lib.Seq.{ext_get_or, get_or-drop}
use Rattle.texts.specs.declared.refusal.Refusal.TheVariants as refusals
use Rattle.meaning.specs.Rules.{Bytes, Fact, Rule}
use Rattle.meaning.specs.Values.{Value, values, in_range}
use Rattle.meaning.specs.Outcomes as meant
use Rattle.derived_set.specs.Members.{places, holds}
use Rattle.tables.specs.Rows.{from}
use Rattle.tables.proofs.Strides.{from_length}
use Rattle.rule_places.specs.Sentences.{sentence}
use Rattle.judge.specs.declared.Judgement.{Judgement}
use Rattle.judge.specs.declared.Judgement.TheVariants.{OutOfRange, Unsatisfied, Accepted, Minimal, Smaller}
use Rattle.judge.specs.Judged.{said, Lent, SetShown}
use Rattle.promise.specs.Answer as paper
use Rattle.promise.specs.Judged.{Settled, settles}
use Rattle.promise.specs.Answered.{rule_part}
use Rattle.promise.proofs.Judged.{settled_is}
use Rattle.fields.specs.declared.answer.Text.TheVariants.{Program}
use Rattle.fields.specs.declared.answer.Answer.{Answer}
use Rattle.fields.specs.Answers.{Says}
use Rattle.fields.specs.Checked.{Answers}
use Rattle.fields.proofs.Kept.{all_listed}
use Rattle.fields.proofs.Saying.{accepted_says, unsatisfied_says, smaller_says}
use Rattle.verdict.specs.Told.{positions_of, Tells, leaves_range, is_broken, is_accepted, is_minimal, is_smaller}
use Rattle.verdict.proofs.Counting.{from_one_taken}
use Rattle.fields.proofs.Answering.{refuses_fault, hands_on}

-- ---- lists

-- what is written at the start, and the rest as it was
written : (n : ℕ) (old new : List ℕ) → n ≤ length old → length new ≡ length old → ((a : ℕ) → n ≤ a → get_or new a 0 ≡ get_or old a 0) → take n new ++ drop (length (take n new)) old ≡ new
written n old new room long same =
    let taken : length (take n new) ≡ n = length-take n new ∙ omega arith in
    let rest : drop n old ≡ drop n new = ext_get_or 0 (drop n old) (drop n new) (length-drop n old ∙ ap (λ (m : ℕ). m - n) (sym long) ∙ sym (length-drop n new)) (λ i l. get_or-drop n old i 0 ∙ sym (same (n + i) (omega arith)) ∙ sym (get_or-drop n new i 0)) in
    ap (λ (m : ℕ). take n new ++ drop m old) taken ∙ ap (λ (l : List ℕ). take n new ++ l) rest ∙ take-append-drop n new

-- ---- the answer

says_as : {x y : paper.Answer} (a : Answer) → x ≡ y → Says a x → Says a y
says_as a e s = rw (← e) s

module _ (text : Bytes) (P : List (Rule Value)) (I : List (Fact Value)) (old new : List ℕ) (n : ℕ) (room : n ≤ length old) (few : n ≤ places) where
  abbrev Here : Answer → List ℕ → Type 0
  Here = Answers (Settled (rule_part text) P I old) old

  pub told : (j : Judgement) → meant.MeansOutcome values in_range P I (said j n new) → Lent j n old new → SetShown j n → (a : Answer) → Tells text n j a → Here a new
  unfolding said Lent SetShown settles paper.says
  told (OutOfRange rule) h lent shown a (leaves_range _) =
      let stage = settled_is (rule_part text) P I old (meant.out_of_range (suc rule)) h in
      let e : suc rule - 1 ≡ rule = omega arith in
      rw lent (refuses_fault _ old Program (record { refusal = refusals.OutOfRange; place = sentence false text rule }) (rw e at stage) a refl)
  told (Unsatisfied rule long positions) h lent shown a (is_broken _ _ _ ps f) =
      let stage = settled_is (rule_part text) P I old _ h in
      let one : rule + 1 ≡ suc rule = add-one rule in
      let taken = from_one_taken long positions ps f in
      rw lent (hands_on _ old _ old stage a (says_as _ (cc (one, taken)) (unsatisfied_says (rule + 1) (positions_of long) ps (omega arith) f.long f.behind)))
  told (Accepted rounds) h lent shown a (is_accepted _) =
      let stage = settled_is (rule_part text) P I old _ h in
      hands_on _ old _ new (rw (written n old new room lent.0 lent.1) at stage) a (accepted_says n rounds)
  told Minimal h lent shown a is_minimal =
      let stage = settled_is (rule_part text) P I old _ h in
      rw lent (hands_on _ old _ old stage a (accepted_says n 0))
  told (Smaller set) h lent shown a (is_smaller _ words bits) =
      let stage = settled_is (rule_part text) P I old _ h in
      rw lent (hands_on _ old _ old stage a (smaller_says set (from (holds set) n 0) (omega (arith, from_length (holds set) n 0, few)) (all_listed (holds set) n shown.none_behind) words bits shown.well_kept))
