-- Whole texts: a program, or a facts line where `ground`.
use Rattle.std.specs.Prelude.{Bool}
use Rattle.reading.specs.Reading.{Answer, Reading}
use Rattle.texts.specs.declared.place.Place.{Place}
use Rattle.meaning.specs.Rules.{Bytes}
use Rattle.grammar.specs.Trees.{Program}
use Rattle.grammar.specs.Sizes.{language}
use Rattle.syntax.specs.Text.{placed_from, end_of}

-- the grammar reads the text's tokens as this
abbrev pub ReadAs : (ground : Bool) → Bytes → Answer Place (Program ground) → Type 0
ReadAs ground text a = Reading (language ground) (end_of text) (placed_from ground text 0) a
