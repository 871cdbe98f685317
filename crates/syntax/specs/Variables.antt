-- The variables of a rule that have been met, as the places of their first occurrences, in text order.
use Rattle.std.specs.Prelude.{cond, List, [], ◌∷◌, map, ℕ, suc, ◌≤◌, length}
use Rattle.std.proofs.Math.Option.{Option, none, some}
use Rattle.texts.specs.declared.place.Place.{Place}
use Rattle.texts.specs.Parts.{part}
use Rattle.meaning.specs.Rules.{Bytes}
use Rattle.meaning.specs.Values.{same_bytes}
use Rattle.grammar.specs.Sizes.{most_variables}

-- the name that bytes are; none: a `_`
unfoldable pub variable_at : Bytes → Option Bytes
variable_at b = cond (same_bytes b (95 ∷ [])) none (some b)

-- the names that stand at the places
unfoldable pub variables_of : Bytes → List Place → List (Option Bytes)
variables_of text v = map (λ p. variable_at (part text p)) v

-- no more than a rule may have
abbrev pub Fits : List Place → Type 0
Fits v = length v ≤ most_variables

-- where some bytes stand in a list first, or its length
unfoldable pub first_among : Bytes → List Bytes → ℕ
first_among b [] = 0
first_among b (c ∷ cs) = cond (same_bytes b c) 0 (suc (first_among b cs))
