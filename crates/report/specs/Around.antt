-- What may stand around the report: lines that are empty or start with `%`. The first other line is the report's, or out of place.
use Rattle.std.specs.Prelude.{ℕ, ◌≡◌, Bool, true, false, List, [], ◌∷◌, ◌++◌, eqb}
use Rattle.texts.specs.declared.place.Span.{Span}
use Rattle.texts.specs.Parts.{bytes_in}
use Rattle.report.specs.declared.around.Found.{Found}
use Rattle.report.specs.declared.around.Found.TheVariants.{End, Line}
use Rattle.report.specs.Lines.{lines_from, located, end_of}

-- a line's bytes: there are none, or the first is `%`
abbrev pub is_idle : List ℕ → Bool
is_idle [] = true
is_idle (b ∷ rest) = eqb b 37

-- each of these lines may stand around the report
abbrev pub AllIdle : List ℕ → List Span → Type 0
AllIdle text [] = Unit {0}
AllIdle text (l ∷ ls) = (is_idle (bytes_in text l) ≡ true) × AllIdle text ls

-- `line` is the first of these lines that may not, and `behind` are the lines behind it
pub record FirstOther (text : List ℕ) (ls : List Span) (line : Span) (behind : List Span) : Type 0 where
  pub before : List Span
  pub split : ls ≡ before ++ (line ∷ behind)
  pub idle : AllIdle text before
  pub other : is_idle (bytes_in text line) ≡ false

-- the first line out of place, of the lines from a place on; or none, and the text's end
pub data OutOfPlace (text : List ℕ) (at : ℕ) : Found → Type 0 where
  none : AllIdle text (lines_from text at) → OutOfPlace text at (End (end_of text))
  some : (line : Span) (behind : List Span) → FirstOther text (lines_from text at) line behind → OutOfPlace text at (Line (located text line))
