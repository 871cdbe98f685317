-- A reader of a text's lines: the lent text, and the place that the reader stands at.
use Rattle.std.specs.Prelude.{ℕ, ◌≡◌, Bool, true, false, List, [], ◌∷◌, Option, MatchOption}
use Rattle.std.specs.Borrow.{Bor}
use Rattle.std.specs.Iterator.{Count, item_count}
use Rattle.texts.specs.Parts.{bytes_in}
use Rattle.texts.specs.declared.place.Span.{Span}
use Rattle.report.specs.declared.reader.Lines.{Lines}
use Rattle.report.specs.Lines.{has_line, lines_from, line_at, behind_line}

abbrev pub reader_at : Bor (List ℕ) → ℕ → Lines
reader_at text at = record { text = text; at = at }

-- there is a line left
abbrev pub has_next : Lines → Bool
has_next reader = has_line reader.text.now reader.at

-- the line that the reader stands at
abbrev pub next : Lines → Span
next reader = line_at reader.text.now reader.at

-- the reader moved past that line
abbrev pub behind : Lines → Lines
behind reader = reader_at reader.text (behind_line reader.text.now reader.at)

-- what a call of the reader gives and leaves: the bytes of the line that it stands at, and the reader moved past that line; or nothing, where
-- no line is left
abbrev pub HandsOn : Lines → Option (Bor (List ℕ)) → Lines → Type 0
HandsOn before line after =
    MatchOption line ((has_next before ≡ false) × (after ≡ before)) (λ bytes. (has_next before ≡ true) × (bytes.now ≡ bytes_in before.text.now (next before)) × (after ≡ behind before))

-- so many lines come at the most
abbrev pub lines_left : Lines → Count
lines_left = item_count (λ reader. lines_from reader.text.now reader.at)

-- the lines that a reader hands out one after the other, until none is left (`hands_out`, `hands_out_only`)
pub data HandsOut : Lines → List Span → Type 0 where
  ends : (reader : Lines) → has_next reader ≡ false → HandsOut reader []
  goes_on : (reader : Lines) (ls : List Span) → has_next reader ≡ true → HandsOut (behind reader) ls → HandsOut reader (next reader ∷ ls)
