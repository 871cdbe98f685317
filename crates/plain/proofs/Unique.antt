-- The writer's answer and the buffer that it leaves are fixed by the text and the buffer.
use mathlib.Core.Path.{◌≡◌, refl, ap}
use mathlib.Core.Bool.{false}
use native.Mathlib.Omega.{arith}
use lib.ListN.{length}
use Prim.Native.Nat.{ℕ}
use Rattle.std.specs.Prelude.{Result, Ok, Err}
use Rattle.texts.specs.declared.refusal.Refused.{Refused}
use Rattle.meaning.specs.Rules.{Bytes}
use Rattle.grammar.specs.Trees.{Program}
use Rattle.stages.specs.Stage.{on}
use Rattle.stages.proofs.Unique.{on_stop, on_inj}
use Rattle.program.proofs.Unique.{same_refusal, program_one}
use Rattle.plainform.specs.PlainBytes.{plain_bytes}
use Rattle.plain.specs.Answer.{filled, WritesProgram, short, writes, Writes, refuses, takes}

pub program_unique : (c d : Program false) → c ≡ d → (buffer : Bytes) (a b : Result ℕ Refused) (l m : Bytes) → WritesProgram c buffer a l → WritesProgram d buffer b m → (a ≡ b) × (l ≡ m)
program_unique c d e buffer a b l m (short g) (short h) = (refl, refl)
program_unique c d e buffer a b l m (short g) (writes h) = absurd (omega (arith, ap (λ (x : Program false). length (plain_bytes x)) e))
program_unique c d e buffer a b l m (writes g) (short h) = absurd (omega (arith, ap (λ (x : Program false). length (plain_bytes x)) e))
program_unique c d e buffer a b l m (writes g) (writes h) = (ap (λ (x : Program false). Ok (length (plain_bytes x))) e, ap (filled buffer) e)

pub written_unique : (text buffer : Bytes) (a b : Result ℕ Refused) (l m : Bytes) → Writes text buffer a l → Writes text buffer b m → (a ≡ b) × (l ≡ m)
written_unique text buffer a b l m (refuses e p r i) (refuses f q s j) = (ap (λ d. Err d) (same_refusal e f p q (program_one text _ _ r s) i j), refl)
written_unique text buffer a b l m (refuses e p r i) (takes c s a' l' h) = absurd (on_stop (program_one text _ _ s r))
written_unique text buffer a b l m (takes c r a' l' g) (refuses e p s i) = absurd (on_stop (program_one text _ _ r s))
written_unique text buffer a b l m (takes c r a' l' g) (takes d s b' m' h) = program_unique c d (on_inj (program_one text (on c) (on d) r s)) buffer a b l m g h
