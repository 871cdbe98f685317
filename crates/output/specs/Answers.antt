-- The fields of an answer, and what the functions that read an output promise.
use Rattle.std.specs.Prelude.{◌≡◌, ℕ, ◌+◌, Result, Ok, Err}
use Rattle.texts.specs.declared.place.Place.{Place}
use Rattle.texts.specs.declared.refusal.Refused.{Refused}
use Rattle.texts.specs.declared.refusal.Refusal.TheVariants.{Misplaced}
use Rattle.texts.specs.Refusal.{number_of}
use Rattle.meaning.specs.Rules.{Bytes}
use Rattle.grammar.specs.Trees.{count}
use Rattle.texts.specs.Place.{text_start, with_len, along}
use Rattle.report.specs.declared.word.Word.{Word}
use Rattle.report.specs.declared.word.Word.TheVariants.{Answer, Inconsistent, Unknown}
use Rattle.report.specs.declared.around.Found.TheVariants.{End, Line}
use Rattle.report.specs.Around.{OutOfPlace}
use Rattle.stages.specs.Stage.{Outcome, on, stop, Stage}
use Rattle.output.specs.declared.OutputRead.{OutputRead}
use Rattle.output.specs.Output.{Report, facts, claim_none, claim_unknown, OutputStage}

-- ---- a place that a report does not name is empty at the text's start, and a number that it does not name is 0

abbrev pub reported : Word → Place → ℕ → OutputRead
reported word line count = record { word = word; line = line; count = count }

abbrev pub report_fields : Report → OutputRead
report_fields (facts line fs) = reported Answer line (count fs)
report_fields claim_none = reported Inconsistent text_start 0
report_fields claim_unknown = reported Unknown text_start 0

-- an outcome's report by its fields, and its refusal by its number and its place
abbrev pub Gives : Outcome Report → Result OutputRead Refused → Type 0
Gives (on x) (Ok r) = r ≡ report_fields x
Gives (stop n p) (Ok r) = ⊥
Gives (on x) (Err e) = ⊥
Gives (stop n p) (Err e) = (n ≡ number_of e.refusal) × (p.place ≡ e.place)

-- the answer is that of an outcome which the stage may have
pub record GivenBy (S : Stage Report) (r : Result OutputRead Refused) : Type 0 where
  pub outcome : Outcome Report
  pub stage : S outcome
  pub so : Gives outcome r

-- what is promised of the answer: each output has one (`reads_output_unique`)
abbrev pub ReadsOutput : Bytes → Result OutputRead Refused → Type 0
ReadsOutput text r = GivenBy (OutputStage text) r

-- a place on a line, its line and column counted on from those of the line: it is that of the output (`counted_on_line`)
abbrev pub counted_on : Place → Place → Place
counted_on line p = with_len (along line (line.start + p.start)) p.len

-- a facts line's refusal, at its place in the output, or its number of facts
abbrev pub line_fields : Place → Result ℕ Refused → Result OutputRead Refused
line_fields line (Ok n) = Ok (reported Answer line n)
line_fields line (Err e) = Err (record { refusal = e.refusal; place = counted_on line e.place })

-- what has been said before; or, where that is no refusal, 2 at the first line that may not stand behind the report
pub data Closes (text : Bytes) (at : ℕ) (said r : Result OutputRead Refused) : Type 0 where
  refuses : (e : Refused) → said ≡ Err e → r ≡ said → Closes text at said r
  closes : (end : Place) → OutOfPlace text at (End end) → r ≡ said → Closes text at said r
  stray : (read : OutputRead) → said ≡ Ok read → (line : Place) → OutOfPlace text at (Line line) → r ≡ Err (record { refusal = Misplaced; place = line }) → Closes text at said r
