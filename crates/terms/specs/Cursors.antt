-- What is asked where reading stands at a cursor.
use Rattle.std.specs.Prelude.{◌≡◌, ℕ, ◌-◌, ◌≤◌, Bool, List, length}
use Rattle.texts.specs.declared.place.Place.{Place}
use Rattle.texts.specs.Place.{Stands}
use Rattle.texts.specs.Places.{places_in}
use Rattle.texts.specs.Sizes.{most_text}
use Rattle.meaning.specs.Rules.{Bytes}
use Rattle.grammar.specs.Sizes.{most_variables}
use Rattle.syntax.specs.declared.token.TokenRead.{TokenRead}
use Rattle.syntax.specs.Text.{token_read}
use Rattle.rows.specs.Growth.{Room, Source}
use Rattle.terms.specs.declared.cursor.Cursor.{Cursor}

-- the numbers of a table for as many variables as a rule may have, by their places
abbrev pub variables_size : ℕ
variables_size = 64

-- the text stands in the two texts, the cursor by its line and column in it, the table of names has room for as many names as there are bytes
-- ahead, and the variables' table for as many as a rule may have
pub record ReadyCursor (program output text : Bytes) (names variables : List ℕ) (k : Cursor) : Type 0 where
  pub source : Source program output text k.base
  pub short : length text ≤ most_text
  pub stands : Stands text k.at
  pub room : Room program output names (length text - k.at.start)
  pub few : k.met ≤ most_variables
  pub long : variables_size ≤ length variables

-- .. at a token
pub record ReadyToken (program output text : Bytes) (names variables : List ℕ) (k : Cursor) (t : TokenRead) : Type 0 where
  pub ready : ReadyCursor program output text names variables k
  pub is_token : t ≡ token_read k.ground text k.at.start

-- the variables met before
abbrev pub met_before : List ℕ → Cursor → List Place
met_before variables k = places_in variables k.met

-- the cursor at another place of the same text
abbrev pub onward : Cursor → Place → Bool → ℕ → Cursor
onward k at over met = record k { at = at; over = over; met = met }
