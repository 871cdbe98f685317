-- The facts of a line in the store: 6 and 7; 9; 12; then the last stages.
use Rattle.std.specs.Prelude.{Option, Some, None, ◌≡◌, true, List, ℕ, ◌<◌, length, get_or}
use Rattle.texts.specs.declared.place.Place.{Place}
use Rattle.texts.specs.Place.{Countable}
use Rattle.texts.specs.declared.refusal.Refusal.{Refusal}
use Rattle.texts.specs.declared.refusal.Refusal.TheVariants as refusals
use Rattle.texts.specs.declared.refusal.Refused.{Refused}
use Rattle.texts.specs.Parts.{part}
use Rattle.meaning.specs.Rules.{Bytes, Fact, Rule}
use Rattle.meaning.specs.Values.{Value}
use Rattle.clashes.specs.declared.Reason.{Reason}
use Rattle.clashes.specs.declared.Reason.TheVariants.{Repeated, Opposed}
use Rattle.clashes.specs.declared.Clashing.{Clashing}
use Rattle.clashes.specs.Clashes.{FirstClash}
use Rattle.store.specs.Store.{store_size, facts_in}
use Rattle.stages.specs.Parts.{Text, start_of}
use Rattle.stages.specs.Stage.{Stage, ◌⟫◌, Refuse, First}
use Rattle.rule_places.specs.Sentences.{sentence}
use Rattle.output.specs.Output.{on_line}
use Rattle.promise.specs.Answer.{Result}
use Rattle.promise.specs.Cases.{Clash, TooManyTested}
use Rattle.promise.specs.Answered.{rule_part, fact_part}
use Rattle.promise.specs.Judged.{Settled}
use Rattle.fields.specs.declared.answer.Answer.{Answer}
use Rattle.filling.specs.Filling.{FactsFilled}
use Rattle.fields.specs.Parts.{fact_place}
use Rattle.fields.specs.Checked.{Answers}
use Rattle.candidate.specs.declared.settled.Counts.{Counts}
use Rattle.candidate.specs.Standing.{InStore}

abbrev pub Behind : (program output : Bytes) → Place → List ℕ → List (Rule Value) → List (Fact Value) → Stage Result
Behind program output line places P I =
    First (fact_part output line) (Clash I) ⟫ λ _.
    Refuse 9 (start_of Text.output) (length places < length I) ⟫ λ _.
    Refuse 12 (start_of Text.output) (TooManyTested P I) ⟫ λ _.
    Settled (rule_part program) P I places

-- the refusal of a fact that clashes
abbrev pub refusal_of : Reason → Refusal
refusal_of Repeated = refusals.Repeated
refusal_of Opposed = refusals.Opposed

-- the fault of the fact that clashes, if one does, where fact k stands at its place
abbrev pub fault_at : (at : ℕ → Place) → Option Clashing → Option Refused
fault_at at None = None
fault_at at (Some c) = Some (record { refusal = refusal_of c.reason; place = at c.fact })

-- the fault is that of the first fact that clashes
pub record FaultOf (store : List ℕ) (n : Counts) (fault : Option Refused) (clash : Option Clashing) (at : ℕ → Place) : Type 0 where
  pub first_clash : (ns : List Bytes) → FirstClash ns (facts_in store) n.facts clash
  pub is : fault ≡ fault_at at clash

-- from the start of the line lines and columns can be counted on as far as each fact
abbrev pub Reachable : Place → List ℕ → ℕ → Type 0
Reachable line starts count = (k : ℕ) → k < count → Countable line (get_or starts k 0)

-- the facts are in the store, and the first of them that clashes has the fault
pub record FactsPut (line : Place) (facts starts lengths : List ℕ) (count : ℕ) (store store' : List ℕ) (fault : Option Refused) : Type 0 where
  pub clash : Option Clashing
  pub filled : FactsFilled facts count store store' clash
  pub is : fault ≡ fault_at (fact_place line starts lengths) clash

-- the store stands for rules and facts
pub record WithFacts (program output : Bytes) (names store : List ℕ) (n : Counts) (fault : Option Refused) : Type 0 where
  pub program_rules : List (Rule Value)
  pub candidate : List (Fact Value)
  pub long : length store ≡ store_size
  pub stands : InStore program output names store n program_rules candidate
  pub clash : Option Clashing
  pub at : ℕ → Place
  pub fault_of : FaultOf store n fault clash at

abbrev pub AnswersFacts : (program output : Bytes) (names store : List ℕ) → Counts → Option Refused → List ℕ → Answer → List ℕ → Type 0
AnswersFacts program output names store n fault places a left =
    (line : Place) (P : List (Rule Value)) (I : List (Fact Value)) → InStore program output names store n P I → (clash : Option Clashing) → FaultOf store n fault clash (λ k. on_line output line (sentence true (part output line) k)) → Answers (Behind program output line places P I) places a left
