-- An operation of a rule leaves the range, at values that the equations that bind complete.
use Rattle.std.specs.Prelude.{◌≡◌, Bool, true, false, List, [], ◌∷◌, ℕ, ◌≤◌}
use Rattle.meaning.specs.Sets.{In, any}
use Rattle.meaning.specs.Rules.{Bytes, Rule}
use Rattle.meaning.specs.Safety.{in_positives, Equation, with, equations}
use Rattle.meaning.specs.Matchings.{Values, side?}
use Rattle.meaning.specs.Matcher.{set_to, complete}
use Rattle.meaning.specs.Quick.{literal_overflows}
use Rattle.codes.specs.Domains.{codes, code_in_range}
use Rattle.grammar.specs.Sizes.{most_literals}
use Rattle.tables.specs.Layout.{terms_column, equations_column}
use Rattle.tables.specs.Rows.{literal_column, side_at, rule_at, rule_column, equation_places}
use Rattle.tables.specs.WellFormed.{EquationRow}
use Rattle.derived_set.specs.Members.{bit}
use Rattle.store.specs.Store.{literals_in, rules_in}
use Rattle.matching.specs.Known.{values_in, Kept}
use Rattle.settle.specs.Settling.{Knowing}

abbrev pub leaves : List Bytes → Rule ℕ → Values ℕ → Bool
leaves names r ρ = any (literal_overflows (codes names) code_in_range (complete (codes names) (equations r) ρ)) r.body

-- the places of the rule's equations that bind
pub record Equations (store : List ℕ) (r : ℕ) : Type 0 where
  pub few : rule_column (rules_in store) r equations_column ≤ most_literals
  pub row : (l : ℕ) → In l (equation_places (rules_in store) r) → EquationRow (literals_in store) l

-- what is known stays known, and perhaps there is more
pub record Adds (bound : ℕ) (before : List ℕ) (r : ℕ) (after : List ℕ) : Type 0 where
  pub knowing : Knowing r after
  pub kept : Kept bound before after
  pub more : (x : ℕ) → bit bound x ≡ true → bit r x ≡ true

-- from the variables of B on, each equation binds one that is not among those that are bound by then
unfoldable pub Fresh : (ℕ → Bool) → List (Equation ℕ) → Type 0
Fresh B [] = Unit {0}
Fresh B (q ∷ qs) = (B q.left ≡ false) × Fresh (with B q.left) qs

-- what the equation at l leaves: no other variable gets a value, and its own, if it has none yet, gets that of the right side
pub record CompletesOne (literals : List ℕ) (l bound : ℕ) (before : List ℕ) (r : ℕ) (after : List ℕ) : Type 0 where
  pub adds : Adds bound before r after
  pub only : (x : ℕ) → bit r x ≡ true → with (bit bound) (literal_column literals l terms_column) x ≡ true
  pub is : bit bound (literal_column literals l terms_column) ≡ false → (names : List Bytes) → values_in r after ≡ set_to (values_in bound before) (literal_column literals l terms_column) (side? (codes names) (values_in bound before) (side_at literals l))

-- what equations leave
pub record Completes (qs : List (Equation ℕ)) (bound : ℕ) (before : List ℕ) (r : ℕ) (after : List ℕ) : Type 0 where
  pub adds : Adds bound before r after
  pub is : Fresh (bit bound) qs → (names : List Bytes) → values_in r after ≡ complete (codes names) qs (values_in bound before)

-- the answer, where only variables of positive literals have values; these stand as they did in any case
pub record LeavesRange (store : List ℕ) (r bound : ℕ) (before : List ℕ) (b : Bool) (after : List ℕ) : Type 0 where
  pub kept : Kept bound before after
  pub is : ((x : ℕ) → bit bound x ≡ true → in_positives (rule_at (rules_in store) (literals_in store) r).body x ≡ true) → (names : List Bytes) → b ≡ leaves names (rule_at (rules_in store) (literals_in store) r) (values_in bound before)
