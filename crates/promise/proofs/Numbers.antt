-- The check refuses exactly in the stated cases, and with a number from 1 to 10, or with 12 a program in which some rule has several heads.
use mathlib.Core.Path.{◌≡◌, refl, sym as inv, ap, ◌∙◌}
use mathlib.Core.Bool.{Bool, true, false, false≢true, ◌||◌}
use mathlib.Core.Logic.{◌↔◌, ◌⊎◌, inl, inr}
use mathlib.Core.List.{List}
use Prim.Native.Nat.{ℕ, suc, ◌≤◌}
use native.Mathlib.Decide.{ℕ_discrete}
use native.Mathlib.Omega.{arith}
use Rattle.texts.specs.declared.place.Place.{Place}
use Rattle.reading.specs.Reading.{Marked}
use Rattle.meaning.specs.Rules.{Bytes, Fact, Rule, disjunctive}
use Rattle.meaning.specs.Values.{Value}
use Rattle.meaning.specs.Verdicts.{Verdict}
use Rattle.meaning.specs.Verdicts as meant
use Rattle.grammar.specs.Tokens.{Token}
use Rattle.grammar.specs.Spelling.{Mark}
use Rattle.grammar.specs.Trees.{Program}
use Rattle.grammar.specs.Abstraction.{rules_for}
use Rattle.grammar.specs.Variables.{Variables}
use Rattle.grammar.specs.Sizes.{too_big, too_long, too_many, too_many_variables, refusal, fault}
use Rattle.report.specs.declared.word.Word.{Word}
use Rattle.report.specs.declared.word.Word.TheVariants as words
use Rattle.stages.specs.Parts.{Part}
use Rattle.stages.specs.Stage.{Outcome, on, stop, stops, goes, given, passed, without}
use Rattle.stages.proofs.Unique.{on_stop, on_inj}
use Rattle.stages.proofs.Numbers.{Among, then_among, refuse_among, first_among, reads_among}
use Rattle.program.specs.Stage.{ProgramStage}
use Rattle.program.proofs.Taken.{refused_between}
use Rattle.output.specs.Output.{Report, facts, claim_none, claim_unknown, Opening, refuses, Closing, stray, Behind, OutputStage}
use Rattle.promise.specs.Answer.{Answer, refused, accepted, unsatisfied, smaller, claimed_none, claimed_unknown, Result, says, result}
use Rattle.promise.specs.Cases.{Clash, repeats, opposes, Leaves, leaves}
use Rattle.promise.specs.Judged.{VerdictStage, judged}
use Rattle.promise.specs.Answered.{Candidate, Reported, code_of, Check, Answered}
use Rattle.promise.specs.Refusals.{Read, Case, of_program, of_output, of_code, of_facts, of_room, of_subsets, of_range}
use Rattle.promise.proofs.Unique.{check_one}

is_refusal : Answer → Bool
is_refusal (refused n p) = true
is_refusal (accepted n k) = false
is_refusal (unsatisfied r ps) = false
is_refusal (smaller ps) = false
is_refusal claimed_none = false
is_refusal claimed_unknown = false

pub same_number : (m n : ℕ) → ¬ ¬ (m ≡ n) → m ≡ n
same_number m n d = elim (ℕ_discrete m n) [ yes e ↦ e | no f ↦ absurd (d f) ]

-- ---- the numbers of each stage; those of a program are `refused_between`

fault_numbers : (vs : Variables) (x : Marked Token Mark) (n : ℕ) → fault true vs x ≡ suc n → (3 ≤ suc n) × (suc n ≤ 4)
unfolding fault refusal
fault_numbers vs x n e = go (too_big x.token) (too_long x.token || too_many true x.mark || too_many_variables vs x.token) e
  where
    go : (big other : Bool) → refusal big other ≡ suc n → (3 ≤ suc n) × (suc n ≤ 4)
    go true true e = (omega arith, omega arith)
    go true false e = (omega arith, omega arith)
    go false true e = (omega arith, omega arith)
    go false false e = absurd (omega arith)

opening_among : (text : Bytes) → Among 1 4 (Opening text)
opening_among text n p (refuses q h) = (omega arith, omega arith)

closing_among : {A : Type 0} (a : A) (text : Bytes) (at : ℕ) → Among 1 4 (Closing a text at)
closing_among a text at n p (stray line h) = (omega arith, omega arith)

behind_among : (text : Bytes) (word : Word) (line : Place) (next : ℕ) → Among 1 4 (Behind text word line next)
behind_among text words.Answer line next =
    then_among 1 4 _ _ (reads_among 1 4 _ _ _ _ (omega arith) (omega arith) (λ vs x n e. let z = fault_numbers vs x n e in (omega (arith, z.0), omega (arith, z.1)))) (λ fs. closing_among (facts line fs) text next)
behind_among text words.Inconsistent line next = closing_among claim_none text next
behind_among text words.Unknown line next = closing_among claim_unknown text next

output_among : (text : Bytes) → Among 1 4 (OutputStage text)
output_among text =
    then_among 1 4 _ _ (refuse_among 1 4 _ _ _ (omega arith) (omega arith)) (λ u.
    then_among 1 4 _ _ (opening_among text) (λ o. behind_among text o.word o.line o.next.start))

clash_among : (I : List (Fact Value)) (i n : ℕ) → Clash I i n → (6 ≤ n) × (n ≤ 7)
clash_among I i n (repeats _ j a l e f) = (omega arith, omega arith)
clash_among I i n (opposes _ j a l e f) = (omega arith, omega arith)

leaves_eight : (P : List (Rule Value)) (I : List (Fact Value)) (i n : ℕ) → Leaves P I i n → (8 ≤ n) × (n ≤ 8)
leaves_eight P I i n (leaves r e ps h) = (omega arith, omega arith)

-- a program that is read, and some rule of which has several heads
pub record SeveralHeads (the_program : Bytes) : Type 0 where
  pub program : Program false
  pub program_read : ProgramStage the_program (on program)
  pub several : disjunctive (rules_for program) ≡ true

-- ---- exactly in the stated cases

module _ (the_program the_output : Bytes) (code : ℕ) (places : List ℕ) where
  abbrev Here : ℕ → Part → Type 0
  Here = Case the_program the_output code places

  judged_on : (P : List (Rule Value)) (I : List (Fact Value)) (o : Outcome Result) → VerdictStage P I places o → (r : Result) × (on r ≡ o)
  judged_on P I o (judged v h) = (says places v, refl)

  candidate_case : (c : Program false) (line : Place) (fs : Program true) → Read the_program the_output code c (facts line fs) → (n : ℕ) (p : Part) → Candidate the_program the_output places c line fs (stop n p) → Here n p
  candidate_case c line fs r n p (stops _ _ h) = of_facts c line fs r n p h
  candidate_case c line fs r n p (goes u _ (without clean) (stops _ _ (given short))) = of_room c line fs r clean short
  candidate_case c line fs r n p (goes u _ (without clean) (goes v _ (passed room) (stops _ _ (given many)))) = of_subsets c line fs r clean (omega (arith, room)) many
  candidate_case c line fs r n p (goes u _ (without clean) (goes v _ (passed room) (goes w _ (passed tested) (stops _ _ h)))) = of_range c line fs r clean (omega (arith, room)) tested n p h
  candidate_case c line fs r n p (goes u _ (without clean) (goes v _ (passed room) (goes w _ h (goes x _ l k)))) = absurd (on_stop (judged_on _ _ _ k).1)

  reported_case : (c : Program false) (r : Report) → Read the_program the_output code c r → (n : ℕ) (p : Part) → Reported the_program the_output places c r (stop n p) → Here n p
  reported_case c (facts line fs) read n p h = candidate_case c line fs read n p h
  reported_case c claim_none read n p h = absurd (on_stop (inv h))
  reported_case c claim_unknown read n p h = absurd (on_stop (inv h))

  stop_case : (n : ℕ) (p : Part) → Check the_program the_output code places (stop n p) → Here n p
  stop_case n p (stops _ _ h) = of_program n p h
  stop_case n p (goes c _ h (stops _ _ k)) = of_output c h n p k
  stop_case n p (goes c _ h (goes r _ k (stops _ _ (given differs)))) = of_code c h r k differs
  stop_case n p (goes c _ h (goes r _ k (goes u _ (passed agrees) l))) = reported_case c r (record { program_read = h; output_read = k; agrees = same agrees }) n p l
    where
      same : ¬ ¬ (code ≡ code_of r) → code ≡ code_of r
      same d = same_number code (code_of r) d

  on_candidate : (c : Program false) (line : Place) (fs : Program true) → Read the_program the_output code c (facts line fs) → (o : Outcome Result) → Candidate the_program the_output places c line fs o → Check the_program the_output code places o
  on_candidate c line fs r o h = goes c _ r.program_read (goes (facts line fs) _ r.output_read (goes tt _ (passed (λ d. d r.agrees)) h))

  case_stop : (n : ℕ) (p : Part) → Here n p → Check the_program the_output code places (stop n p)
  case_stop n p (of_program _ _ h) = stops n p h
  case_stop n p (of_output c h _ _ k) = goes c _ h (stops n p k)
  case_stop n p (of_code c h r k differs) = goes c _ h (goes r _ k (stops _ _ (given differs)))
  case_stop n p (of_facts c line fs r _ _ h) = on_candidate c line fs r _ (stops n p h)
  case_stop n p (of_room c line fs r clean short) = on_candidate c line fs r _ (goes tt _ (without clean) (stops _ _ (given short)))
  case_stop n p (of_subsets c line fs r clean room many) = on_candidate c line fs r _ (goes tt _ (without clean) (goes tt _ (passed (λ k. absurd (omega (arith, k, room)))) (stops _ _ (given many))))
  case_stop n p (of_range c line fs r clean room tested _ _ h) = on_candidate c line fs r _ (goes tt _ (without clean) (goes tt _ (passed (λ k. absurd (omega (arith, k, room)))) (goes tt _ (passed tested) (stops n p h))))

  -- ---- a stage that hands on an answer hands on no refusal

  says_none : (v : Verdict) → is_refusal (says places v).answer ≡ false
  unfolding says is_refusal
  says_none (meant.accepted n k ks) = refl
  says_none (meant.unsatisfied r ps) = refl
  says_none (meant.smaller bs) = refl

  judged_none : (P : List (Rule Value)) (I : List (Fact Value)) (r : Result) (o : Outcome Result) → o ≡ on r → VerdictStage P I places o → is_refusal r.answer ≡ false
  judged_none P I r o e (judged v h) = let z : says places v ≡ r = on_inj e in rw (← z) (says_none v)

  reported_none : (c : Program false) (report : Report) (r : Result) → Reported the_program the_output places c report (on r) → is_refusal r.answer ≡ false
  unfolding is_refusal
  reported_none c (facts line fs) r (goes u _ h (goes v _ k (goes w _ l (goes x _ m j)))) = judged_none _ _ r _ refl j
  reported_none c claim_none r h = let z : r ≡ record { answer = claimed_none; places = places } = on_inj h in rw z
  reported_none c claim_unknown r h = let z : r ≡ record { answer = claimed_unknown; places = places } = on_inj h in rw z

  hands_on : (o : Outcome Result) → Check the_program the_output code places o → (n : ℕ) (p : Part) → (result places o).answer ≡ refused n p → o ≡ stop n p
  unfolding result is_refusal
  hands_on (stop m q) h n p e = let a : m ≡ n = cc in let b : q ≡ p = cc in cc
  hands_on (on r) (goes c _ h (goes report _ k (goes u _ l j))) n p e = absurd (false≢true (inv (reported_none c report r j) ∙ ap is_refusal e))

  stop_answer : (n : ℕ) (p : Part) (o : Outcome Result) → o ≡ stop n p → (result places o).answer ≡ refused n p
  unfolding result
  stop_answer n p o e = rw e

  -- the answer refuses with n and p exactly in that case
  pub refused_exactly : (a : Answer) (left : List ℕ) → Answered the_program the_output code places a left → (n : ℕ) (p : Part) → (a ≡ refused n p) ↔ Here n p
  refused_exactly a left h n p =
      let so : a ≡ (result places h.outcome).answer = ap (λ r. r.answer) h.so in
      (λ e. stop_case n p (rw (hands_on h.outcome h.checked n p (inv so ∙ e)) at h.checked), λ k. so ∙ stop_answer n p _ (check_one the_program the_output places code _ _ h.checked (case_stop n p k)))

  -- and its number is one of 1 to 10, or 12, which only a program with several heads in some rule gets
  pub numbers : (n : ℕ) (p : Part) → Here n p → ((1 ≤ n) × (n ≤ 10)) ⊎ ((n ≡ 12) × SeveralHeads the_program)
  numbers n p (of_program _ _ h) = let z = refused_between the_program n p h in inl (z.0, omega (arith, z.1))
  numbers n p (of_output c h _ _ k) = let z = output_among the_output n p k in inl (z.0, omega (arith, z.1))
  numbers n p (of_code c h r k differs) = inl (omega arith, omega arith)
  numbers n p (of_facts c line fs r _ _ h) = let z = first_among 6 7 _ _ (clash_among _) n p h in inl (omega (arith, z.0), omega (arith, z.1))
  numbers n p (of_room c line fs r clean short) = inl (omega arith, omega arith)
  numbers n p (of_subsets c line fs r clean room many) = inr (refl, record { program = c; program_read = r.program_read; several = many.several })
  numbers n p (of_range c line fs r clean room tested _ _ h) = let z = first_among 8 8 _ _ (leaves_eight _ _) n p h in inl (omega (arith, z.0), omega (arith, z.1))
