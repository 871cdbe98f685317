-- What `check` promises, in the words of its own type: when it refuses, when it hands on a claim, and when it gives each verdict
-- for a program and a candidate that are read, with room, with no more facts than are tested where a rule has several heads, and with nothing out of range.
use mathlib.Core.Path.{◌≡◌, refl, sym, ap, subst, ◌∙◌}
use mathlib.Core.Bool.{Bool, true, false}
use mathlib.Core.Logic.{◌↔◌, ◌⊎◌}
use mathlib.Core.List.{List, ◌++◌, map}
use Prim.Native.Nat.{ℕ, ◌≤◌}
use native.Mathlib.Omega.{arith}
use lib.ListN.{length, get_or, take, drop}
use Rattle.texts.specs.declared.place.Place.{Place}
use Rattle.meaning.specs.Rules.{Bytes, disjunctive}
use Rattle.meaning.specs.Values.{Value, values}
use Rattle.meaning.specs.Instances.{Set}
use Rattle.meaning.specs.AnswerSets.{Broken, Accepted}
use Rattle.meaning.specs.Verdicts.{way, HasRounds, MeansAccepted, MeansUnsatisfied, SmallerSet, LastLevel, LeastNumber, MeansSmaller}
use Rattle.grammar.specs.Trees.{Program}
use Rattle.grammar.specs.Abstraction.{rules_for, facts_for}
use Rattle.stages.specs.Parts.{Part}
use Rattle.output.specs.Output.{claim_none, claim_unknown}
use Rattle.derived_set.specs.Members.{holds}
use Rattle.promise.specs.Answer.{Fields, fields}
use Rattle.promise.specs.Answer as paper
use Rattle.promise.specs.Answered.{Check}
use Rattle.promise.specs.Refusals.{Read, Case}
use Rattle.promise.specs.Ready.{Ready}
use Rattle.promise.specs.Located.{Located}
use Rattle.promise.proofs.Numbers as numbers
use Rattle.promise.proofs.Claims as claims
use Rattle.promise.proofs.Rounds as rounds
use Rattle.promise.proofs.Located as located
use Rattle.promise.proofs.Demands as demands
use Rattle.derived_set.specs.declared.Derived.{Derived}
use Rattle.fields.specs.declared.answer.Part.{Part as PartValue}
use Rattle.fields.specs.declared.answer.Answer.TheVariants.{Refused, Unsatisfied, Smaller, ClaimedNone, ClaimedUnknown}
use Rattle.fields.specs.declared.answer.Answer.TheVariants as answers
use Rattle.fields.specs.declared.answer.Answer.{Answer}
use Rattle.fields.specs.Parts.{part_of}
use Rattle.fields.specs.Answers.{WholeSet, fields_of, said}
use Rattle.fields.specs.Checked.{Answers}
use Rattle.fields.proofs.Kept.{kept_decided, kept_sized}
use Rattle.fields.proofs.Said.{FormOf, form_of}

module _ (the_program the_output : Bytes) (code : ℕ) (places : List ℕ) (a : Answer) (left : List ℕ) (h : Answers (Check the_program the_output code places) places a left) where
  says : (b : Answer) → a ≡ b → h.answer ≡ said b
  says b e = sym h.says.says ∙ ap said e

  form : (x : paper.Answer) → h.answer ≡ x → FormOf x a
  form x e = form_of a x (h.says.says ∙ e)

  -- ---- the first demand

  -- it refuses with the number n and the part p
  abbrev pub Refuses : ℕ → Part → Type 0
  Refuses n p = (v : PartValue) × (a ≡ Refused n v) × (part_of v ≡ p)

  -- .. exactly in that case
  pub refused_exactly : (n : ℕ) (p : Part) → Refuses n p ↔ Case the_program the_output code places n p
  refused_exactly n p =
      let exactly = numbers.refused_exactly the_program the_output code places h.answer left h.gives n p in
      (λ x. exactly.0 (says _ x.1 ∙ ap (paper.refused n) x.2), λ k. form (paper.refused n p) (exactly.1 k))

  -- .. and its number is one of 1 to 10, or 12, which only a program with several heads in some rule gets
  pub refused_numbers : (n : ℕ) (v : PartValue) → a ≡ Refused n v → ((1 ≤ n) × (n ≤ 10)) ⊎ ((n ≡ 12) × numbers.SeveralHeads the_program)
  refused_numbers n v e = numbers.numbers the_program the_output code places _ _ ((refused_exactly _ _).0 (v, e, refl))

  -- it hands on that there is no answer set, or that none was found, exactly where the output reports it, with its code
  pub claimed_none_exactly : (a ≡ ClaimedNone) ↔ ((c : Program false) × Read the_program the_output code c claim_none)
  claimed_none_exactly =
      let exactly = claims.claimed_exactly the_program the_output code places true h.answer left h.gives in
      (λ e. exactly.0 (says ClaimedNone e), λ x. form paper.claimed_none (exactly.1 x))

  pub claimed_unknown_exactly : (a ≡ ClaimedUnknown) ↔ ((c : Program false) × Read the_program the_output code c claim_unknown)
  claimed_unknown_exactly =
      let exactly = claims.claimed_exactly the_program the_output code places false h.answer left h.gives in
      (λ e. exactly.0 (says ClaimedUnknown e), λ x. form paper.claimed_unknown (exactly.1 x))

  -- only ACCEPTED writes
  pub unwritten : ((n k : ℕ) → ¬ (a ≡ answers.Accepted n k)) → left ≡ places
  unwritten f = claims.only_accepted_writes the_program the_output code places h.answer left h.gives (λ n k e. f n k (form (paper.accepted n k) e))

  -- ---- the set by value

  -- its size is how many positions the answer shows
  pub kept_size : (s : Derived) → a ≡ Smaller s → s.size ≡ length (fields h.answer).kept
  kept_size s e =
      let whole : WholeSet s = rw e at h.says.nothing_else in
      whole.well_kept ∙ sym (kept_sized s) ∙ ap (λ (x : paper.Answer). length (fields x).kept) (sym (says (Smaller s) e))

  -- ---- where its part stands

  -- with the line and the column of its start, in the text that it names
  pub part_located : (n : ℕ) (v : PartValue) → a ≡ Refused n v → Located the_program the_output (part_of v)
  part_located n v e = subst (λ (x : paper.Answer). Located the_program the_output (fields x).part) (says (Refused n v) e) (located.part_located the_program the_output places code h.answer left h.gives)

  -- .. and so is the part of an answer of any kind
  pub field_located : Located the_program the_output (fields_of a).part
  field_located =
      let f : fields_of a ≡ fields h.answer = h.says.zero in
      subst (Located the_program the_output) (sym (ap (λ (x : Fields). x.part) f)) (located.part_located the_program the_output places code h.answer left h.gives)

  -- ---- ROUNDS

  -- it never passes the number of atoms
  pub rounds_at_most : (n k : ℕ) → a ≡ answers.Accepted n k → k ≤ n
  rounds_at_most n k e = rw (says (answers.Accepted n k) e) at (rounds.rounds_at_most the_program the_output code places h.answer left h.gives)

  -- .. with any kind: where it names neither, both are zero
  pub field_rounds_at_most : (fields_of a).rounds ≤ (fields_of a).atoms
  field_rounds_at_most =
      let f : fields_of a ≡ fields h.answer = h.says.zero in
      omega (arith, ap (λ (x : Fields). x.rounds) f, ap (λ (x : Fields). x.atoms) f, rounds.rounds_at_most the_program the_output code places h.answer left h.gives)

  -- ---- the third demand

  module _ (c : Program false) (line : Place) (fs : Program true) (ready : Ready the_program the_output code places c line fs) where
    -- it accepts exactly where the plain definition does
    pub accepted_exactly : ((n k : ℕ) × (a ≡ answers.Accepted n k)) ↔ Accepted values (rules_for c) (facts_for fs)
    accepted_exactly =
        let exactly = demands.accepted_exactly the_program the_output code places c line fs ready h.answer left h.gives in
        (λ x. exactly.0 (x.0, x.1, says _ x.2), λ m. let x = exactly.1 m in (x.0, x.1, form (paper.accepted x.0 x.1) x.2))

    module _ (n k : ℕ) (e : a ≡ answers.Accepted n k) where
      -- .. with the number of atoms, and what the program asks of ROUNDS and of the rounds in the places, from the first on; later places are as they
      -- were
      pub accepted_shows : (ks : List ℕ) × MeansAccepted (way (rules_for c)) values (rules_for c) (facts_for fs) n k ks × (left ≡ ks ++ drop (length ks) places)
      accepted_shows = demands.accepted_shows the_program the_output code places c line fs ready n k left (rw (says _ e) at h.gives)

      -- .. where no rule has several heads: ROUNDS, and each atom's round
      pub accepted_rounds : disjunctive (rules_for c) ≡ false → (ks : List ℕ) × (n ≡ length (facts_for fs)) × HasRounds values (rules_for c) (facts_for fs) k ks × (left ≡ ks ++ drop (length ks) places)
      accepted_rounds single = demands.accepted_rounds the_program the_output code places c line fs ready single n k left (rw (says _ e) at h.gives)

      -- .. where some rule has several heads: ROUNDS is zero, and every place is as it was
      pub accepted_unwritten : disjunctive (rules_for c) ≡ true → (n ≡ length (facts_for fs)) × (k ≡ 0) × (left ≡ places)
      accepted_unwritten several = demands.accepted_unwritten the_program the_output code places c line fs ready several n k left (rw (says _ e) at h.gives)

    -- it rejects by a broken instance exactly where there is one
    pub unsatisfied_exactly : ((r count : ℕ) × (ps : List ℕ) × (a ≡ Unsatisfied r count ps)) ↔ Broken values (rules_for c) (facts_for fs)
    unsatisfied_exactly =
        let exactly = demands.unsatisfied_exactly the_program the_output code places c line fs ready h.answer left h.gives in
        (λ x. exactly.0 (x.0, _, says _ x.3), λ m. let x = exactly.1 m in let f = form (paper.unsatisfied x.0 x.1) x.2 in (x.0, f.0, f.1, f.2))

    -- .. and shows the first of them
    pub unsatisfied_shows : (r count : ℕ) (ps : List ℕ) → a ≡ Unsatisfied r count ps → MeansUnsatisfied values (rules_for c) (facts_for fs) r (take count ps) × (left ≡ places)
    unsatisfied_shows r count ps e = demands.unsatisfied_shows the_program the_output code places c line fs ready r (take count ps) left (rw (says _ e) at h.gives)

    -- it rejects by a smaller set exactly where none is broken, and the plain definition does not accept
    pub smaller_exactly : ((s : Derived) × (a ≡ Smaller s)) ↔ ((¬ Broken values (rules_for c) (facts_for fs)) × (¬ Accepted values (rules_for c) (facts_for fs)))
    smaller_exactly =
        let exactly = demands.smaller_exactly the_program the_output code places c line fs ready h.answer left h.gives in
        (λ x. exactly.0 (_, says _ x.1), λ m. let x = exactly.1 m in let f = form (paper.smaller x.0) x.1 in (f.0, f.1))

    module _ (s : Derived) (e : a ≡ Smaller s) where
      -- .. and shows the one that the program asks for: the set by value has exactly its atoms
      pub smaller_shows : (bs : List Bool) × ((i : ℕ) → holds s i ≡ get_or bs i false) × MeansSmaller (way (rules_for c)) values (rules_for c) (facts_for fs) bs × (left ≡ places)
      smaller_shows =
          let x = demands.smaller_shows the_program the_output code places c line fs ready _ left (rw (says _ e) at h.gives) in
          (x.0, kept_decided s x.0 x.1, x.2, x.3)

      -- .. where no rule has several heads: the last Lk, which lies inside every other subset that satisfies the reduct
      pub smaller_last : disjunctive (rules_for c) ≡ false → (J : Set Value) × ((i : ℕ) → holds s i ≡ get_or (map J (facts_for fs)) i false) × SmallerSet values (rules_for c) (facts_for fs) J × LastLevel values (rules_for c) (facts_for fs) J
      smaller_last single =
          let x = demands.smaller_last the_program the_output code places c line fs ready single _ left (rw (says _ e) at h.gives) in
          (x.0, kept_decided s (map x.0 (facts_for fs)) x.1, x.2, x.3)

      -- .. where some rule has several heads: of the proper subsets that satisfy the reduct, the one whose number is least
      pub smaller_least : disjunctive (rules_for c) ≡ true → (J : Set Value) × ((i : ℕ) → holds s i ≡ get_or (map J (facts_for fs)) i false) × SmallerSet values (rules_for c) (facts_for fs) J × LeastNumber values (rules_for c) (facts_for fs) J
      smaller_least several =
          let x = demands.smaller_least the_program the_output code places c line fs ready several _ left (rw (says _ e) at h.gives) in
          (x.0, kept_decided s (map x.0 (facts_for fs)) x.1, x.2, x.3)
