-- What an output is read as, stage by stage: 1; then 2, 3 and 4 from the left, as the lines of the output stand.
use Rattle.std.specs.Prelude.{true, List, ℕ, ◌+◌, ◌≤◌, ◌<◌, length, drop}
use Rattle.texts.specs.declared.place.Place.{Place}
use Rattle.texts.specs.Parts.{part}
use Rattle.texts.specs.Sizes.{most_text}
use Rattle.texts.specs.Prefix.{in_line, prefix_len}
use Rattle.texts.specs.Place.{place_from, Stands}
use Rattle.meaning.specs.Values.{Value}
use Rattle.meaning.specs.Rules.{Bytes, Fact}
use Rattle.grammar.specs.Trees.{Program}
use Rattle.grammar.specs.Sizes.{language}
use Rattle.grammar.specs.Abstraction.{facts_for}
use Rattle.syntax.specs.Text.{placed_from, end_of}
use Rattle.report.specs.declared.word.Word.{Word}
use Rattle.report.specs.declared.word.Word.TheVariants.{Answer, Inconsistent, Unknown}
use Rattle.report.specs.declared.around.Found.TheVariants.{End, Line}
use Rattle.report.specs.Around.{OutOfPlace}
use Rattle.report.specs.Report.{refused, found, Reported}
use Rattle.stages.specs.Parts.{output, in_text, start_of}
use Rattle.stages.specs.Stage.{Outcome, on, stop, Stage, ◌⟫◌, Refuse, Reads}

-- ANSWER with the facts line and its facts; INCONSISTENT; UNKNOWN
pub data Report : Type 0 where
  facts : (line : Place) → Program true → Report
  claim_none claim_unknown : Report

-- the candidate: its facts, in text order
abbrev pub candidate : Program true → List (Fact Value)
candidate fs = facts_for fs

-- ---- the lines as far as the report: 2 where it is missing, out of place, or lacks its facts line

-- the report's word; with ANSWER the facts line; where the lines behind the report begin
pub record Opened : Type 0 where
  pub word : Word
  pub line : Place
  pub next : Place

pub data Opening (text : Bytes) : Outcome Opened → Type 0 where
  refuses : (place : Place) → Reported text (refused place) → Opening text (stop 2 (in_text output place))
  opens : (o : Opened) → Reported text (found o.word o.line o.next) → Opening text (on o)

-- ---- the facts line: 2, 3 and 4

-- a place on a line, as a place of the text that has the line
abbrev pub on_line : Bytes → Place → Place → Place
on_line text line p = place_from text (line.start + p.start) p.len

abbrev pub Facts : Bytes → Place → Stage (Program true)
Facts text line = let bytes = part text line in Reads (language true) (λ p. in_text output (on_line text line p)) (end_of bytes) (placed_from true bytes 0)

-- the line has the line and column of its start, and no newline
pub record OneLine (text : Bytes) (line : Place) : Type 0 where
  pub stands : Stands text line
  pub unbroken : line.len ≤ prefix_len in_line (drop line.start text)

-- ---- the lines behind the report, from a place on: 2 at the first that may not stand there

pub data Closing {A : Type 0} (a : A) (text : Bytes) (at : ℕ) : Outcome A → Type 0 where
  closes : (end : Place) → OutOfPlace text at (End end) → Closing a text at (on a)
  stray : (line : Place) → OutOfPlace text at (Line line) → Closing a text at (stop 2 (in_text output line))

-- ---- the whole

abbrev pub Behind : Bytes → Word → Place → ℕ → Stage Report
Behind text Answer line next = Facts text line ⟫ λ fs. Closing (facts line fs) text next
Behind text Inconsistent line next = Closing claim_none text next
Behind text Unknown line next = Closing claim_unknown text next

abbrev pub OutputStage : Bytes → Stage Report
OutputStage text =
    Refuse 1 (start_of output) (most_text < length text) ⟫ λ u.
    Opening text ⟫ λ o.
    Behind text o.word o.line o.next.start
