-- What the writer promises: the reader's refusals, then 9, else the plain form at the buffer's start.
use Rattle.std.specs.Prelude.{◌≡◌, false, Result, Ok, Err, ◌++◌, ℕ, ◌≤◌, ◌<◌, length, drop}
use Rattle.texts.specs.declared.refusal.Refused.{Refused}
use Rattle.texts.specs.declared.refusal.Refusal.TheVariants.{ShortBuffer}
use Rattle.texts.specs.Refusal.{number_of}
use Rattle.meaning.specs.Rules.{Bytes}
use Rattle.grammar.specs.Trees.{Program}
use Rattle.texts.specs.Place.{text_start}
use Rattle.stages.specs.Parts.{Part}
use Rattle.stages.specs.Stage.{on, stop}
use Rattle.program.specs.Stage.{ProgramStage}
use Rattle.plainform.specs.PlainBytes.{ReadAs, plain_bytes}

-- the plain form at the buffer's start, and every later byte as it was
abbrev pub filled : Bytes → Program false → Bytes
filled buffer c = plain_bytes c ++ drop (length (plain_bytes c)) buffer

-- a text that is read as c: the length of its plain form, or a refusal, and the buffer that it leaves
pub data WritesProgram (c : Program false) (buffer : Bytes) : Result ℕ Refused → Bytes → Type 0 where
  -- 9, empty at the program's start, exactly where the buffer is shorter than the plain form; every byte is as it was
  short : length buffer < length (plain_bytes c) → WritesProgram c buffer (Err (record { refusal = ShortBuffer; place = text_start })) buffer
  writes : length (plain_bytes c) ≤ length buffer → WritesProgram c buffer (Ok (length (plain_bytes c))) (filled buffer c)

-- a text that is read
abbrev pub AnswersPlain : (text buffer : Bytes) → Result ℕ Refused → Bytes → Type 0
AnswersPlain text buffer a left = (c : Program false) → ReadAs text c → WritesProgram c buffer a left

-- any text
pub data Writes (text buffer : Bytes) : Result ℕ Refused → Bytes → Type 0 where
  -- 1 to 5 as the reader of programs gives them; every byte is as it was
  refuses : (e : Refused) (p : Part) → ProgramStage text (stop (number_of e.refusal) p) → e.place ≡ p.place → Writes text buffer (Err e) buffer
  takes : (c : Program false) → ProgramStage text (on c) → (a : Result ℕ Refused) (left : Bytes) → WritesProgram c buffer a left → Writes text buffer a left
