-- What the test against every proper subset answers, in the words of the quick check.
use Rattle.std.specs.Prelude.{◌≡◌, true, false, ◌&&◌, ◌||◌, Option, Some, None, IfSome, List, [], ℕ, ◌*◌, ◌-◌, ◌^◌, ◌≤◌, ◌<◌, ltb, length, get_or}
use Rattle.meaning.specs.Rules.{Bytes}
use Rattle.meaning.specs.Verdicts.{Verdict, accepted, smaller}
use Rattle.meaning.specs.Quick.{clauses, smaller_set, shows}
use Rattle.codes.specs.Domains.{codes}
use Rattle.tables.specs.Rows.{from, facts_of, rules_of}
use Rattle.derived_set.specs.declared.Derived.{Derived}
use Rattle.derived_set.specs.Members.{bit, holds, WellKept}
use Rattle.store.specs.Store.{facts_in, literals_in, rules_in}
use Rattle.matchings.specs.Tables.{Comparing}
use Rattle.subsets.specs.Table.{most_words, ruled_out}
use Rattle.subset_test.specs.Refuted.{refuted}

-- the first rules rule out what their matchings refute, beside what was ruled out
pub record Refutes (ranks store : List ℕ) (count total rules : ℕ) (table table' : List ℕ) : Type 0 where
  pub long : length table' ≡ length table
  pub out : (names : List Bytes) → Comparing names ranks store total → (J : ℕ) → J < 64 * length table → ruled_out table' J ≡ (ruled_out table J || refuted (codes names) (facts_of (facts_in store) count) (rules_of (rules_in store) (literals_in store) rules) J)

-- the number of the candidate itself
abbrev pub own_number : ℕ → ℕ
own_number count = 2 ^ count - 1

-- a table with a bit for each subset, none of which is ruled out
pub record Blank (count : ℕ) (table : List ℕ) : Type 0 where
  pub wide : 2 ^ count ≤ 64 * length table
  pub room : length table ≤ most_words
  pub zeros : (k : ℕ) → get_or table k 0 ≡ 0

-- r is the first number that no matching refutes, or the candidate's own
pub record Unrefuted (ranks store : List ℕ) (count total r : ℕ) : Type 0 where
  pub within : r ≤ own_number count
  pub before : (names : List Bytes) → Comparing names ranks store total → (J : ℕ) → J < r → refuted (codes names) (facts_of (facts_in store) count) (rules_of (rules_in store) (literals_in store) total) J ≡ true
  pub here : (names : List Bytes) → Comparing names ranks store total → r < own_number count → refuted (codes names) (facts_of (facts_in store) count) (rules_of (rules_in store) (literals_in store) total) r ≡ false

-- the set has the facts below `count` whose bits the number has
pub record KeptFacts (number count : ℕ) (s : Derived) : Type 0 where
  pub well_kept : WellKept s
  pub has : (a : ℕ) → holds s a ≡ (ltb a count && bit number a)

-- the verdict of a smaller set, or of none
unfoldable pub told : Option Derived → ℕ → Verdict
told None count = accepted count 0 []
told (Some s) count = smaller (from (holds s) count 0)

pub record Tested (ranks store : List ℕ) (count total : ℕ) (r : Option Derived) : Type 0 where
  pub well_kept : IfSome r WellKept
  pub inside : IfSome r (λ s. (a : ℕ) → holds s a ≡ true → a < count)
  pub says : (names : List Bytes) → Comparing names ranks store total → shows (facts_of (facts_in store) count) (smaller_set (codes names) (clauses (codes names) (rules_of (rules_in store) (literals_in store) total) (facts_of (facts_in store) count)) (facts_of (facts_in store) count)) ≡ told r count
