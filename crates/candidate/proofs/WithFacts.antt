-- The ways through `with_facts`: 6 or 7; 9; 12; the last stages.
use mathlib.Core.Path.{◌≡◌, refl, sym, ap, ◌∙◌}
use mathlib.Core.Bool.{Bool, true}
use mathlib.Core.List.{List, []}
use Prim.Native.Nat.{ℕ, ◌<◌, ◌≤◌}
use native.Mathlib.Omega.{arith}
use lib.ListN.{length}
use Rattle.texts.specs.declared.place.Place.{Place}
use Rattle.std.specs.Prelude.{Option, Some, None}
use Rattle.texts.specs.declared.refusal.Refusal.TheVariants.{ShortBuffer, Untested}
use Rattle.texts.specs.declared.refusal.Refused.{Refused}
use Rattle.texts.specs.Parts.{part}
use Rattle.texts.specs.Place.{text_start}
use Rattle.meaning.specs.Rules.{Bytes, Fact, Rule, disjunctive}
use Rattle.meaning.specs.Values.{Value}
use Rattle.names.specs.Table.{names_of}
use Rattle.store.specs.Store.{store_size, facts_in}
use Rattle.clashes.specs.declared.Clashing.{Clashing}
use Rattle.clashes.specs.Clashes.{First, FirstClash}
use Rattle.stages.specs.Stage.{stops, goes, given, passed, without}
use Rattle.rule_places.specs.Sentences.{sentence}
use Rattle.output.specs.Output.{on_line}
use Rattle.promise.specs.Cases.{Clash, most_tested, TooManyTested}
use Rattle.promise.specs.Answered.{rule_part, fact_part}
use Rattle.promise.specs.Judged.{Settled}
use Rattle.fields.specs.declared.answer.Text.TheVariants.{Output}
use Rattle.fields.specs.declared.answer.Answer.{Answer}
use Rattle.fields.specs.Values.{of_fault}
use Rattle.fields.specs.Checked.{Answers}
use Rattle.candidate.specs.declared.settled.Counts.{Counts}
use Rattle.candidate.specs.declared.settled.Task.{Task}
use Rattle.candidate.specs.Standing.{several_heads, InStore, Settling}
use Rattle.candidate.specs.Facts.{refusal_of, fault_at, Behind, FaultOf, WithFacts}
use Rattle.candidate.proofs.Clashing.{counted, first_clashes, none_clashes}
use Rattle.candidate.proofs.Settling.{few_rows}
use Rattle.candidate.proofs.Heads.{same_disjunctive}
use Rattle.fields.proofs.Answering.{refuses_fault, answers_as}

-- ---- a fault, and the fact that has it

none_there : (at : ℕ → Place) (clash : Option Clashing) → fault_at at clash ≡ None → clash ≡ None
none_there at None e = refl
none_there at (Some c) e = absurd (let z : ◌≡◌ {A = ℕ} 0 1 = cc in omega arith)

some_there : (at : ℕ → Place) (clash : Option Clashing) (f : Refused) → fault_at at clash ≡ Some f → (c : Clashing) × (clash ≡ Some c) × (record { refusal = refusal_of c.reason; place = at c.fact } ≡ f)
some_there at None f e = absurd (let z : ◌≡◌ {A = ℕ} 0 1 = cc in omega arith)
some_there at (Some c) f e = (c, refl, cc)

-- facts that clash have one fault by two tables of places that agree on all facts
pub same_fault : (at at' : ℕ → Place) (facts : List ℕ) (count : ℕ) (clash : Option Clashing) → ((ns : List Bytes) → FirstClash ns facts count clash) → ((k : ℕ) → k < count → at k ≡ at' k) → fault_at at clash ≡ fault_at at' clash
same_fault at at' facts count None first same = refl
same_fault at at' facts count (Some c) first same = ap (λ (p : Place). Some (record { refusal = refusal_of c.reason; place = p })) (same c.fact (first []).inside)

none_left : (fault : Option Refused) → ((f : Refused) → fault ≡ Some f → ⊥) → fault ≡ None
none_left None h = refl
none_left (Some f) h = absurd (h f refl)

-- ---- the ways

module _ (program output : Bytes) (names store : List ℕ) (n : Counts) (fault : Option Refused) (clash : Option Clashing) where
  abbrev named : List Bytes
  named = names_of program output names

  module _ (P : List (Rule Value)) (I : List (Fact Value)) (s : InStore program output names store n P I) where
    pub clear : (at : ℕ → Place) → FaultOf store n fault clash at → ((f : Refused) → fault ≡ Some f → ⊥) → (i k : ℕ) → ¬ Clash I i k
    clear at of z = none_clashes named s.held.rules_held.name_table.distinct (facts_in store) n.facts I s.held.facts_stand (rw (none_there at clash (sym of.is ∙ none_left fault z)) at (of.first_clash named))

    long : length I ≡ n.facts
    long = counted named s.held.rules_held.name_table.distinct (facts_in store) n.facts I s.held.facts_stand

    -- where the facts are too many to be tested, the store and the count of the facts say so
    too_many : (b : Bool) → b ≡ several_heads store n.rules → TooManyTested P I → (b ≡ true) × (most_tested < n.facts)
    too_many b e m = (e ∙ same_disjunctive named _ P s.held.rules_held.rules_stand ∙ m.several, omega (arith, m.many, long))

    module _ (line : Place) (of : FaultOf store n fault clash (λ k. on_line output line (sentence true (part output line) k))) (places : List ℕ) where
      abbrev Here : Answer → List ℕ → Type 0
      Here = Answers (Behind program output line places P I) places

      -- 6 or 7
      pub by_clash : (f : Refused) → fault ≡ Some f → (a : Answer) → a ≡ of_fault Output f → Here a places
      by_clash f z a e =
          let there = some_there _ clash f (sym of.is ∙ z) in
          let found : First named (facts_in store) n.facts there.0 = rw there.1 at (of.first_clash named) in
          let stage = first_clashes named s.held.rules_held.name_table.distinct (facts_in store) n.facts I s.held.facts_stand there.0 found (fact_part output line) in
          refuses_fault _ places Output f (rw (← there.2) (stops _ _ stage)) a e

      -- 9
      pub by_room : ((f : Refused) → fault ≡ Some f → ⊥) → length places < n.facts → (a : Answer) → a ≡ of_fault Output (record { refusal = ShortBuffer; place = text_start }) → Here a places
      by_room z short a e = refuses_fault _ places Output (record { refusal = ShortBuffer; place = text_start }) (goes tt _ (without (clear _ of z)) (stops _ _ (given (omega (arith, short, long))))) a e

      module _ (z : (f : Refused) → fault ≡ Some f → ⊥) (room : n.facts ≤ length places) (b : Bool) (heads : b ≡ several_heads store n.rules) where
        -- 12
        pub by_subsets : b ≡ true → most_tested < n.facts → (a : Answer) → a ≡ of_fault Output (record { refusal = Untested; place = text_start }) → Here a places
        by_subsets t many a e =
            let several : disjunctive P ≡ true = sym (same_disjunctive named _ P s.held.rules_held.rules_stand) ∙ sym heads ∙ t in
            refuses_fault _ places Output (record { refusal = Untested; place = text_start }) (goes tt _ (without (clear _ of z)) (goes tt _ (passed (λ short. absurd (omega (arith, short, long, room)))) (stops _ _ (given (record { several = several; many = omega (arith, many, long) }))))) a e

        -- the last stages
        pub by_stages : (b ≡ true → n.facts ≤ most_tested) → (a : Answer) (left : List ℕ) → Answers (Settled (rule_part program) P I places) places a left → Here a left
        by_stages tested = answers_as (Settled (rule_part program) P I places) places (Behind program output line places P I) (λ o k. goes tt _ (without (clear _ of z)) (goes tt _ (passed (λ short. absurd (omega (arith, short, long, room)))) (goes tt _ (passed (λ m. let x = too_many b heads m in absurd (omega (arith, x.1, tested x.0)))) k)))

-- the premises of the look for several heads
pub heads_inside : (program output : Bytes) (names store : List ℕ) (n : Counts) (fault : Option Refused) → WithFacts program output names store n fault → (length store ≡ store_size) × (n.rules ≤ 256)
heads_inside program output names store n fault w = (w.long, few_rows store n.rules w.stands.held.rules_held.rule_table.rule)

-- .. and of the last stages
pub settling : (program output : Bytes) (names store : List ℕ) (t : Task) (fault : Option Refused) (places : List ℕ) → WithFacts program output names store t.counts fault → ((f : Refused) → fault ≡ Some f → ⊥) → t.counts.facts ≤ length places → t.several ≡ several_heads store t.counts.rules → (t.several ≡ true → t.counts.facts ≤ most_tested) → Settling program output names store t places
settling program output names store t fault places w z room heads tested =
    record {
      program_rules = w.program_rules;
      candidate = w.candidate;
      long = w.long;
      stands = w.stands;
      unclashing = clear program output names store t.counts fault w.clash w.program_rules w.candidate w.stands w.at w.fault_of z;
      room = room;
      several = heads;
      tested = tested;
    }
