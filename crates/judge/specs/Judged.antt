-- What a judgement says, as an outcome of the meaning, and what it does with the lent places.
use Rattle.std.specs.Prelude.{◌≡◌, false, ◌⊎◌, List, [], map, ℕ, suc, ◌≤◌, length, get_or, take}
use Rattle.std.proofs.Math.Option.{none, some}
use Rattle.meaning.specs.Rules.{Bytes, Fact, Rule}
use Rattle.meaning.specs.Verdicts.{accepted, unsatisfied, smaller}
use Rattle.meaning.specs.Outcomes.{Outcome, out_of_range, verdict}
use Rattle.meaning.specs.Quick.{broken, overflow, outcome}
use Rattle.codes.specs.Domains.{codes, code_in_range}
use Rattle.tables.specs.Layout.{positives_column}
use Rattle.tables.specs.Rows.{from, rule_column}
use Rattle.store.specs.Store.{rules_in}
use Rattle.derived_set.specs.declared.Derived.{Derived}
use Rattle.derived_set.specs.Members.{holds, WellKept}
use Rattle.matchings.specs.Tables.{Comparing}
use Rattle.search.specs.declared.Scan.{Scan}
use Rattle.derivation.specs.Rounds.{rules_for, all_facts}
use Rattle.judge.specs.declared.Judgement.{Judgement}
use Rattle.judge.specs.declared.Judgement.TheVariants.{OutOfRange, Unsatisfied, Accepted, Minimal, Smaller}

-- the judgement of a broken instance
abbrev pub broken_judgement : List ℕ → ℕ → List ℕ → Judgement
broken_judgement store rule positions = Unsatisfied rule (rule_column (rules_in store) rule positives_column) positions

-- beside n atoms and the rounds in the lent places; a rule's number and positions are held from 0, and said from 1
unfoldable pub said : Judgement → ℕ → List ℕ → Outcome
said (OutOfRange rule) n rounds = out_of_range (suc rule)
said (Unsatisfied rule long positions) n rounds = verdict (unsatisfied (suc rule) (map suc (take long positions)))
said (Accepted k) n rounds = verdict (accepted n k (take n rounds))
said Minimal n rounds = verdict (accepted n 0 [])
said (Smaller set) n rounds = verdict (smaller (from (holds set) n 0))

-- only ACCEPTED with rounds writes, and only the first n places
unfoldable pub Lent : Judgement → ℕ → List ℕ → List ℕ → Type 0
Lent (OutOfRange rule) n rounds rounds' = rounds' ≡ rounds
Lent (Unsatisfied rule long positions) n rounds rounds' = rounds' ≡ rounds
Lent (Accepted k) n rounds rounds' = (length rounds' ≡ length rounds) × ((a : ℕ) → n ≤ a → get_or rounds' a 0 ≡ get_or rounds a 0)
Lent Minimal n rounds rounds' = rounds' ≡ rounds
Lent (Smaller set) n rounds rounds' = rounds' ≡ rounds

-- a set that is well kept, and has none but the n atoms
pub record SetBelow (n : ℕ) (s : Derived) : Type 0 where
  pub well_kept : WellKept s
  pub none_behind : (a : ℕ) → n ≤ a → holds s a ≡ false

-- the set of SMALLER is one
unfoldable pub SetShown : Judgement → ℕ → Type 0
SetShown (OutOfRange rule) n = Unit {0}
SetShown (Unsatisfied rule long positions) n = Unit {0}
SetShown (Accepted k) n = Unit {0}
SetShown Minimal n = Unit {0}
SetShown (Smaller set) n = SetBelow n set

pub record Judged (names : List Bytes) (P : List (Rule ℕ)) (I : List (Fact ℕ)) (rounds rounds' : List ℕ) (j : Judgement) : Type 0 where
  pub says : said j (length I) rounds' ≡ outcome (codes names) code_in_range P I
  pub lent : Lent j (length I) rounds rounds'
  pub set_shown : SetShown j (length I)

-- ---- over the store, whatever the names

abbrev pub Judges : List ℕ → List ℕ → ℕ → ℕ → List ℕ → List ℕ → Judgement → Type 0
Judges ranks store count total rounds rounds' j = (names : List Bytes) → Comparing names ranks store total → Judged names (rules_for store total) (all_facts store count) rounds rounds' j

abbrev pub JudgedInRange : List ℕ → List ℕ → ℕ → ℕ → List ℕ → List ℕ → Judgement → Type 0
JudgedInRange ranks store count total rounds rounds' j = (names : List Bytes) → Comparing names ranks store total → overflow (codes names) code_in_range (rules_for store total) (all_facts store count) ≡ none → Judged names (rules_for store total) (all_facts store count) rounds rounds' j

-- the first broken instance; or none is broken, and the judgement has the set
pub record ShowsBroken (names : List Bytes) (P : List (Rule ℕ)) (I : List (Fact ℕ)) (j : Judgement) : Type 0 where
  pub rule : ℕ
  pub long : ℕ
  pub positions : List ℕ
  pub is : j ≡ Unsatisfied rule long positions
  pub first : broken (codes names) P I ≡ some (record { rule = rule; at = take long positions })

pub record ShowsSet (names : List Bytes) (P : List (Rule ℕ)) (I : List (Fact ℕ)) (set : Derived) (j : Judgement) : Type 0 where
  pub is : j ≡ Smaller set
  pub unbroken : broken (codes names) P I ≡ none

abbrev pub Rejects : List ℕ → List ℕ → Scan → Derived → Judgement → Type 0
Rejects ranks store scan set j = (names : List Bytes) → Comparing names ranks store scan.total → ShowsBroken names (rules_for store scan.total) (all_facts store scan.count) j ⊎ ShowsSet names (rules_for store scan.total) (all_facts store scan.count) set j
