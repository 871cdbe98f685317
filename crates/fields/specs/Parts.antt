-- The parts of the two lent texts: which text, which bytes of it, and where a fact stands.
use Rattle.std.specs.Prelude.{◌≡◌, List, ℕ, ◌+◌, min, length, get_or}
use Rattle.texts.specs.declared.place.Place.{Place}
use Rattle.texts.specs.Place.{with_len, along}
use Rattle.texts.specs.Parts.{part}
use Rattle.meaning.specs.Rules.{Bytes}
use Rattle.stages.specs.Parts.{Text, program, output, of_text, Part, in_text}
use Rattle.fields.specs.declared.answer.Text.{Text as TextValue}
use Rattle.fields.specs.declared.answer.Text.TheVariants.{Program, Output}
use Rattle.fields.specs.declared.answer.Part.{Part as PartValue}

abbrev pub text_of : TextValue → Text
text_of Program = program
text_of Output = output

abbrev pub part_of : PartValue → Part
part_of p = in_text (text_of p.text) p.place

-- where bytes stand in memory: a block, and how far into it
abbrev pub Memory : Type 0
Memory = ℕ × ℕ

-- the part of a text that stands at `from`: the bytes from its start on, as many as it says and there are, and where they stand in the text
pub record Cut (text : Bytes) (from : Memory) (place : Place) (bytes : Bytes) (at : Memory) : Type 0 where
  pub same : bytes ≡ part text place
  pub block : at.0 ≡ from.0
  pub offset : at.1 ≡ from.1 + min place.start (length text)

-- a part of whichever of the two texts it names
abbrev pub HandedBack : (program : Bytes) → Memory → (output : Bytes) → Memory → PartValue → (bytes : Bytes) → Memory → Type 0
HandedBack p from o from' x bytes at = Cut (of_text p o (text_of x.text)) (of_text from from' (text_of x.text)) x.place bytes at

-- where fact k of a line stands, by tables of starts and lengths, its line and column counted on from those of the line
abbrev pub fact_place : Place → List ℕ → List ℕ → ℕ → Place
fact_place line starts lengths k = with_len (along line (get_or starts k 0)) (get_or lengths k 0)
