-- The cases of refusal that speak of rules and facts: 6, 7, 8 and 12.
use Rattle.std.specs.Prelude.{◌≡◌, true, not, List, ℕ, ◌<◌, length}
use Rattle.std.proofs.Math.Option.{some}
use Rattle.std.proofs.Math.ListN.{get_elem?}
use Rattle.meaning.specs.Rules.{Fact, Rule, disjunctive}
use Rattle.meaning.specs.Values.{Value, values, in_range}
use Rattle.meaning.specs.Matchings.{OverflowAt}

-- the same fact with the other sign
abbrev pub opposite : Fact Value → Fact Value
opposite a = record { negative = not a.negative; name = a.name; arguments = a.arguments }

-- fact i (from 0) repeats an earlier one: 6; or differs from an earlier one only in sign: 7
pub data Clash (I : List (Fact Value)) : ℕ → ℕ → Type 0 where
  repeats : (i j : ℕ) (a : Fact Value) → j < i → get_elem? I j ≡ some a → get_elem? I i ≡ some a → Clash I i 6
  opposes : (i j : ℕ) (a : Fact Value) → j < i → get_elem? I j ≡ some (opposite a) → get_elem? I i ≡ some a → Clash I i 7

-- the most facts of a candidate that is tested against every proper subset
abbrev pub most_tested : ℕ
most_tested = 20

-- some rule has two heads or more, so the candidate is to be tested so, and it has too many facts: 12
pub record TooManyTested (P : List (Rule Value)) (I : List (Fact Value)) : Type 0 where
  pub several : disjunctive P ≡ true
  pub many : most_tested < length I

-- some matching of rule i (from 0) leaves the range: 8
pub data Leaves (P : List (Rule Value)) (I : List (Fact Value)) (i : ℕ) : ℕ → Type 0 where
  leaves : (r : Rule Value) → get_elem? P i ≡ some r → (ps : List ℕ) → OverflowAt values in_range I r ps → Leaves P I i 8
