-- The lines of a text, each a span of it; and a line as a place, which has a line and a column.
use Rattle.std.specs.Prelude.{ℕ, suc, ◌+◌, ◌-◌, ◌≤◌, ◌<◌, ◌≡◌, Bool, true, cond, List, [], ◌∷◌, ◌++◌, eqb, ltb, length, drop}
use Rattle.texts.specs.declared.place.Place.{Place}
use Rattle.texts.specs.declared.place.Span.{Span}
use Rattle.texts.specs.Prefix.{in_line, prefix_len, every}
use Rattle.texts.specs.Parts.{bytes_in}
use Rattle.texts.specs.Place.{place_from, Stands}
use Rattle.texts.specs.Places.{span_from}

-- a byte before lines belongs to the first of them, or is one of its own
abbrev pub longer : ℕ → List Span → List Span
longer at [] = span_from at 1 ∷ []
longer at (l ∷ ls) = span_from at (suc l.len) ∷ ls

-- the lines of bytes that stand in a text from a place on: a line ends before a newline or at the end of the bytes,
-- and nothing after a last newline is no line
unfoldable pub lines_at : ℕ → List ℕ → List Span
lines_at at [] = []
lines_at at (b ∷ rest) = cond (eqb b 10) (span_from at 0 ∷ lines_at (suc at) rest) (longer at (lines_at (suc at) rest))

-- the lines of a text from a place on, and all of them
abbrev pub lines_from : List ℕ → ℕ → List Span
lines_from text at = lines_at at (drop at text)

abbrev pub lines : List ℕ → List Span
lines text = lines_from text 0

-- ---- line by line (`lines_none`, `lines_more`)

-- there is a line from a place on
abbrev pub has_line : List ℕ → ℕ → Bool
has_line text at = ltb at (length text)

-- the end of the line that starts at a place: before a newline, or at the text's end
abbrev pub line_end : List ℕ → ℕ → ℕ
line_end text at = at + prefix_len in_line (drop at text)

-- where the line behind one that ends at a place begins
unfoldable pub next_line : List ℕ → ℕ → ℕ
next_line text end = cond (ltb end (length text)) (end + 1) (length text)

-- the line that starts at a place, and where the line behind it begins
abbrev pub line_at : List ℕ → ℕ → Span
line_at text at = span_from at (line_end text at - at)

abbrev pub behind_line : List ℕ → ℕ → ℕ
behind_line text at = next_line text (line_end text at)

-- ---- as places

abbrev pub located : List ℕ → Span → Place
located text line = place_from text line.start line.len

-- empty, at the end of the text
abbrev pub end_of : List ℕ → Place
end_of text = place_from text (length text) 0

-- the place reaches as far as its line
pub record WholeLine (text : List ℕ) (line : Place) : Type 0 where
  pub stands : Stands text line
  pub whole : line.start + line.len ≡ line_end text line.start

-- ---- what makes spans the lines of a text (`lines_are`): no other spans do (`lines_only`)

-- the first starts at a place, each other behind the newline of the one before it, and all lie inside the text
abbrev pub InOrder : ℕ → ℕ → List Span → Type 0
InOrder end at [] = Unit {0}
InOrder end at (l ∷ ls) = (l.start ≡ at) × (at < end) × (at + l.len ≤ end) × InOrder end (suc (at + l.len)) ls

-- none of them has a newline
abbrev pub Unbroken : List ℕ → List Span → Type 0
Unbroken text [] = Unit {0}
Unbroken text (l ∷ ls) = (every in_line (bytes_in text l) ≡ true) × Unbroken text ls

-- their bytes, with a newline behind each
abbrev pub joined : List ℕ → List Span → List ℕ
joined text [] = []
joined text (l ∷ ls) = bytes_in text l ++ (10 ∷ joined text ls)

-- bytes with a newline at their end: one more where the last is none
abbrev pub ended : List ℕ → List ℕ
ended [] = []
ended (b ∷ []) = b ∷ cond (eqb b 10) [] (10 ∷ [])
ended (b ∷ c ∷ rest) = b ∷ ended (c ∷ rest)

-- from a place on, where `bytes` stand
pub record AreLines (text : List ℕ) (at : ℕ) (bytes : List ℕ) (ls : List Span) : Type 0 where
  pub in_order : InOrder (length text) at ls
  pub unbroken : Unbroken text ls
  pub whole : joined text ls ≡ ended bytes
