-- Where the part of an answer stands: in the text that it names, with the line and the column of its start there.
use Rattle.texts.specs.Place.{Stands}
use Rattle.meaning.specs.Rules.{Bytes}
use Rattle.stages.specs.Parts.{of_text, Part}

-- a line is one more than the newlines before the start, a column one more than the bytes since the last of them
abbrev pub Located : (the_program the_output : Bytes) → Part → Type 0
Located the_program the_output p = Stands (of_text the_program the_output p.text) p.place
