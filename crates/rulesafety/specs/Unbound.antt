-- The first variable that is not bound.
use Rattle.std.specs.Prelude.{◌≡◌, Bool, true, false, Option, Some, None, List, ℕ, ◌*◌, ◌≤◌, ◌<◌, get_or, length}
use Rattle.texts.specs.declared.place.Place.{Place}
use Rattle.texts.specs.Place.{text_start}
use Rattle.texts.specs.Places.{place_stride}
use Rattle.grammar.specs.Sizes.{most_variables}

-- the table has a place for each variable
pub record Numbered (variables : List ℕ) (count : ℕ) : Type 0 where
  pub few : count ≤ most_variables
  pub long : count * place_stride ≤ length variables

-- B: the variables that are bound; firsts: where each variable of the rule first stands, by its number
pub data FirstUnbound (B : ℕ → Bool) (firsts : List Place) (r : Option Place) : Type 0 where
  -- a variable is not bound, and each with a lower number is
  found : (x : ℕ) → x < length firsts → B x ≡ false → ((y : ℕ) → y < x → B y ≡ true) → r ≡ Some (get_or firsts x text_start) → FirstUnbound B firsts r
  -- every variable is bound
  all_bound : ((x : ℕ) → x < length firsts → B x ≡ true) → r ≡ None → FirstUnbound B firsts r
