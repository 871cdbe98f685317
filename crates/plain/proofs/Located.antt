-- The part that the writer's refusal names has the line and the column of its start.
use mathlib.Core.Bool.{false}
use Prim.Native.Nat.{ℕ}
use Rattle.std.specs.Prelude.{Result, IfErr}
use Rattle.texts.specs.declared.refusal.Refused.{Refused}
use Rattle.texts.specs.Refusal.{number_of}
use Rattle.texts.specs.Place.{Stands}
use Rattle.texts.proofs.Counting.{start_stands}
use Rattle.meaning.specs.Rules.{Bytes}
use Rattle.grammar.specs.Trees.{Program}
use Rattle.program.proofs.Placed.{refused_placed}
use Rattle.plain.specs.Answer.{WritesProgram, Writes, refuses, takes}

at_start : (text : Bytes) (c : Program false) (buffer : Bytes) (a : Result ℕ Refused) (left : Bytes) → WritesProgram c buffer a left → IfErr a (λ e. Stands text e.place)
at_start text c buffer _ _ (WritesProgram.short h) = start_stands text
at_start text c buffer _ _ (WritesProgram.writes h) = tt

pub written_located : (text buffer : Bytes) (a : Result ℕ Refused) (left : Bytes) → Writes text buffer a left → IfErr a (λ e. Stands text e.place)
written_located text buffer a left (refuses e p r q) = rw q (refused_placed text (number_of e.refusal) p r).stands
written_located text buffer a left (takes c s b l h) = at_start text c buffer b l h
