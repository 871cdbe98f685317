-- `read_line` meets its contract. The invariant: what was read stands at the line's start. Assumes nothing.
use Rattle.std.proofs.Common.{take}
use Rattle.std.specs.Io.KnownBytes.{Consumes}
use Rattle.frames.proofs.read_line.Given as goal

abbrev pub invariant-loop-len : goal.invariant-loop-len
invariant-loop-len g l = Consumes (g.R.Read.remaining l.initial.input) (g.R.Read.remaining l.input) (take l.len l.line)
