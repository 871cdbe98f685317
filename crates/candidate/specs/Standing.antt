-- A store that stands for a program and a candidate, and the last stages over it.
use Rattle.std.specs.Prelude.{◌≡◌, Bool, true, List, ℕ, ◌≤◌, length}
use Rattle.meaning.specs.Sets.{every}
use Rattle.meaning.specs.Rules.{Bytes, Fact, Rule, disjunctive}
use Rattle.meaning.specs.Values.{Value}
use Rattle.meaning.specs.Safety.{safe}
use Rattle.codes.specs.Codes.{Coded}
use Rattle.codes.specs.Predicates.{CodedName}
use Rattle.codes.specs.Related.{Pairwise, RelatedAtom, RelatedRule}
use Rattle.names.specs.Table.{names_of, Table}
use Rattle.tables.specs.Rows.{facts_of, rules_of}
use Rattle.tables.specs.WellFormed.{FactTable, RuleTable}
use Rattle.chains.specs.Links.{Linked}
use Rattle.store.specs.Store.{store_size, facts_in, literals_in, rules_in, links_in}
use Rattle.matchings.specs.Tables.{Comparing}
use Rattle.promise.specs.Cases.{Clash, most_tested}
use Rattle.promise.specs.Answered.{rule_part}
use Rattle.promise.specs.Judged.{Settled}
use Rattle.fields.specs.declared.answer.Answer.{Answer}
use Rattle.fields.specs.Checked.{Answers}
use Rattle.candidate.specs.declared.settled.Counts.{Counts}
use Rattle.candidate.specs.declared.settled.Task.{Task}

abbrev pub FactsStand : List Bytes → List (Fact ℕ) → List (Fact Value) → Type 0
FactsStand names F I = Pairwise (RelatedAtom (CodedName names) (Coded names)) F I

abbrev pub RulesStand : List Bytes → List (Rule ℕ) → List (Rule Value) → Type 0
RulesStand names R P = Pairwise (RelatedRule (CodedName names) (Coded names)) R P

-- some rule in the store has several heads
abbrev pub several_heads : List ℕ → ℕ → Bool
several_heads store total = disjunctive (rules_of (rules_in store) (literals_in store) total)

-- well-formed tables of names, rules and literals, for the safe rules P
pub record RulesHeld (program output : Bytes) (names rules literals : List ℕ) (total : ℕ) (P : List (Rule Value)) : Type 0 where
  pub name_table : Table program output names
  pub rule_table : RuleTable rules literals total
  pub rules_stand : RulesStand (names_of program output names) (rules_of rules literals total) P
  pub safe_rules : every safe P ≡ true

-- .. and of facts, for the facts I
pub record Held (program output : Bytes) (names rules literals facts : List ℕ) (count total : ℕ) (P : List (Rule Value)) (I : List (Fact Value)) : Type 0 where
  pub rules_held : RulesHeld program output names rules literals total P
  pub fact_table : FactTable facts count
  pub facts_stand : FactsStand (names_of program output names) (facts_of facts count) I

-- .. with the facts' chains
pub record Stands (program output : Bytes) (names rules literals facts links : List ℕ) (count total : ℕ) (P : List (Rule Value)) (I : List (Fact Value)) : Type 0 where
  pub held : Held program output names rules literals facts count total P I
  pub linked : Linked links facts count

-- .. all of them in the store
abbrev pub InStore : (program output : Bytes) (names store : List ℕ) → Counts → List (Rule Value) → List (Fact Value) → Type 0
InStore program output names store n P I = Stands program output names (rules_in store) (literals_in store) (facts_in store) (links_in store) n.facts n.rules P I

-- .. whose facts are distinct and consistent, with room for their rounds, and not too many to be tested where some rule has several heads
pub record Settling (program output : Bytes) (names store : List ℕ) (t : Task) (places : List ℕ) : Type 0 where
  pub program_rules : List (Rule Value)
  pub candidate : List (Fact Value)
  pub long : length store ≡ store_size
  pub stands : InStore program output names store t.counts program_rules candidate
  pub unclashing : (i k : ℕ) → ¬ Clash candidate i k
  pub room : t.counts.facts ≤ length places
  pub several : t.several ≡ several_heads store t.counts.rules
  pub tested : t.several ≡ true → t.counts.facts ≤ most_tested

-- the answer behind 12, for whatever the store stands for
abbrev pub AnswersSettled : (program output : Bytes) (names store : List ℕ) → Task → List ℕ → Answer → List ℕ → Type 0
AnswersSettled program output names store t places a left =
    (P : List (Rule Value)) (I : List (Fact Value)) → InStore program output names store t.counts P I → Answers (Settled (rule_part program) P I places) places a left

-- .. beside ranks of the names, which are those of some output and table
pub record Judgeable (program : Bytes) (ranks store : List ℕ) (t : Task) (places : List ℕ) : Type 0 where
  pub output : Bytes
  pub names : List ℕ
  pub settling : Settling program output names store t places
  pub comparing : Comparing (names_of program output names) ranks store t.counts.rules

abbrev pub AnswersJudged : (program : Bytes) (ranks store : List ℕ) → Task → List ℕ → Answer → List ℕ → Type 0
AnswersJudged program ranks store t places a left =
    (output : Bytes) (names : List ℕ) (P : List (Rule Value)) (I : List (Fact Value)) → InStore program output names store t.counts P I → Comparing (names_of program output names) ranks store t.counts.rules → Answers (Settled (rule_part program) P I places) places a left
