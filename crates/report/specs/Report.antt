-- The report of an output: which line it is, where its facts stand, and what is refused.
use Rattle.std.specs.Prelude.{ℕ, ◌≡◌, true, List, [], ◌∷◌, length, Result, Ok, Err}
use Rattle.texts.specs.declared.place.Place.{Place}
use Rattle.texts.specs.declared.place.Span.{Span}
use Rattle.texts.specs.declared.refusal.Refused.{Refused}
use Rattle.texts.specs.declared.refusal.Refusal.TheVariants.{Misplaced}
use Rattle.texts.specs.Parts.{bytes_in}
use Rattle.texts.specs.Place.{place_from, text_start}
use Rattle.report.specs.declared.word.Word.{Word}
use Rattle.report.specs.declared.word.Word.TheVariants.{Answer, Inconsistent, Unknown}
use Rattle.report.specs.declared.Report.{Report}
use Rattle.report.specs.Lines.{lines, located, end_of}
use Rattle.report.specs.Around.{AllIdle, FirstOther}
use Rattle.report.specs.Word.{spelling, starts_with}

-- ---- the two sorts of answers; where a report has no line of facts, that place is empty at the text's start

abbrev pub refused : Place → Result Report Refused
refused place = Err (record { refusal = Misplaced; place = place })

abbrev pub found : Word → Place → Place → Result Report Refused
found word facts next = Ok (record { word = word; facts = facts; next = next })

-- ---- what is reported

-- the line starts with the word, in its first column; anything may follow on it
abbrev pub Says : List ℕ → Span → Word → Type 0
Says text line word = starts_with (spelling word) (bytes_in text line) ≡ true

-- where lines begin: with the first of them, or at the end of the output
abbrev pub beginning : List ℕ → List Span → ℕ
beginning text [] = length text
beginning text (l ∷ ls) = l.start

-- by the word and the lines behind it: after ANSWER the next line, whatever it is, holds the facts, and must be there
abbrev pub reported : List ℕ → Word → List Span → Result Report Refused
reported text Answer [] = refused (end_of text)
reported text Answer (facts ∷ behind) = found Answer (located text facts) (place_from text (beginning text behind) 0)
reported text Inconsistent behind = found Inconsistent text_start (place_from text (beginning text behind) 0)
reported text Unknown behind = found Unknown text_start (place_from text (beginning text behind) 0)

-- the answer for an output: by the first line that is neither empty nor starts with `%`
pub data Reported (text : List ℕ) : Result Report Refused → Type 0 where
  -- there is none: the report is missing
  missing : AllIdle text (lines text) → Reported text (refused (end_of text))
  -- it is no report: it is out of place
  stray : (line : Span) (behind : List Span) → FirstOther text (lines text) line behind → ((word : Word) → Says text line word → ⊥) → Reported text (refused (located text line))
  -- it is the report's
  says : (line : Span) (behind : List Span) → FirstOther text (lines text) line behind → (word : Word) → Says text line word → Reported text (reported text word behind)
