-- The answer of the grammar's machine over a whole text is its reading.
use mathlib.Core.Path.{◌≡◌}
use mathlib.Core.Bool.{Bool}
use Rattle.texts.specs.declared.place.Place.{Place}
use Rattle.reading.specs.Reading.{Answer}
use Rattle.reading.specs.Machine.{answer}
use Rattle.meaning.specs.Rules.{Bytes}
use Rattle.grammar.specs.Trees.{empty, Program}
use Rattle.grammar.proofs.Theorems.{answer_is_reading}
use Rattle.syntax.specs.Text.{placed_from, end_of}
use Rattle.syntax.specs.Rules.{behind_rules}
use Rattle.syntax.specs.Programs.{ReadAs}

module _ (ground : Bool) (text : Bytes) where
  -- the answer from the start is the reading
  pub reading_of : (a : Answer Place (Program ground)) → behind_rules ground text empty 0 ≡ a → ReadAs ground text a
  unfolding answer
  reading_of a e = rw e at (answer_is_reading ground (end_of text) (placed_from ground text 0))
