-- The writer's answer for any text, from what the reader of programs gives.
use mathlib.Core.List.{List}
use Prim.Native.Nat.{ℕ}
use Rattle.std.specs.Prelude.{Result, Err}
use Rattle.texts.specs.declared.refusal.Refused.{Refused}
use Rattle.meaning.specs.Rules.{Bytes}
use Rattle.program.specs.Answer.{ProgramGoes, ProgramStops}
use Rattle.program.proofs.Taken.{read_is_read}
use Rattle.plaintokens.specs.Promise.{Readable}
use Rattle.plain.specs.Answer.{AnswersPlain, Writes, refuses, takes}

pub passes_on : {text : Bytes} {e : Refused} → ProgramStops text e → (buffer : Bytes) → Writes text buffer (Err e) buffer
passes_on {text} {e} g buffer = refuses e g.part g.reads g.place

module _ {text output : Bytes} {names rules literals names' rules' literals' : List ℕ} {n : ℕ} (g : ProgramGoes text output names rules literals n names' rules' literals') where
  pub readable : Readable text
  readable = let t = read_is_read text g.tree g.reads in record { size = t.size; program = g.tree; read = t.reading }

  pub writes_it : (buffer : Bytes) (a : Result ℕ Refused) (left : Bytes) → AnswersPlain text buffer a left → Writes text buffer a left
  writes_it buffer a left h = takes g.tree g.reads a left (h g.tree (read_is_read text g.tree g.reads).reading)
