-- The store filled with a program's rules, and with a candidate's facts and their chains.
use Rattle.std.specs.Prelude.{◌≡◌, Option, Result, List, ℕ, ◌≤◌, length, take}
use Rattle.texts.specs.declared.refusal.Refused.{Refused}
use Rattle.texts.specs.Sizes.{most_text}
use Rattle.meaning.specs.Rules.{Bytes}
use Rattle.tables.specs.Rows.{from, fact_predicate}
use Rattle.tables.specs.WellFormed.{FactTable}
use Rattle.tables.specs.Stored.{Kept}
use Rattle.rows.specs.Growth.{Room}
use Rattle.chains.specs.Links.{Linked}
use Rattle.clashes.specs.declared.Clashing.{Clashing}
use Rattle.clashes.specs.Clashes.{FirstClash}
use Rattle.program.specs.Answer.{ReadsProgram}
use Rattle.store.specs.Store.{store_size, facts_in, literals_in, rules_in, links_in}

-- how many numbers the part of the facts has
abbrev pub facts_size : ℕ
facts_size = 9_216

-- ---- rules

pub record RulesFillable (program output : Bytes) (names store : List ℕ) : Type 0 where
  pub room : length program ≤ most_text → Room program output names (length program)
  pub long : length store ≡ store_size

-- the literals stand in their part of the store, and the rest of it is as it was
pub record RulesRead (program output : Bytes) (names rules store : List ℕ) (r : Result ℕ Refused) (names' rules' store' : List ℕ) : Type 0 where
  pub reads : ReadsProgram program output names rules (literals_in store) r names' rules' (literals_in store')
  pub kept : Kept 9_216 65_536 store store'
  pub rules_long : length rules' ≡ length rules

-- what `read_program` promises of tables of rules and literals holds of their parts of the store
pub record RulesFilled (program output : Bytes) (names store : List ℕ) (r : Result ℕ Refused) (names' store' : List ℕ) : Type 0 where
  pub long : length store' ≡ store_size
  pub rules_before : List ℕ
  pub reads : ReadsProgram program output names rules_before (literals_in store) r names' (rules_in store') (literals_in store')

-- ---- facts

pub record FactsFillable (facts predicates : List ℕ) (count : ℕ) (store : List ℕ) : Type 0 where
  pub long : length store ≡ store_size
  pub wide : length facts ≡ facts_size
  pub table : FactTable facts count
  pub are_predicates : take count predicates ≡ from (fact_predicate facts) count 0

-- the facts stand in their part, with their chains; the rules stand as they did
pub record FactsFilled (facts : List ℕ) (count : ℕ) (store store' : List ℕ) (r : Option Clashing) : Type 0 where
  pub long : length store' ≡ store_size
  pub facts_are : facts_in store' ≡ facts
  pub literals_are : literals_in store' ≡ literals_in store
  pub rules_are : rules_in store' ≡ rules_in store
  pub linked : Linked (links_in store') facts count
  pub clash : (names : List Bytes) → FirstClash names facts count r
