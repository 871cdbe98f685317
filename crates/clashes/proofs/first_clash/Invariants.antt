-- `first_clash` meets its contract. The invariant: no earlier fact clashes.
use mathlib.Core.List.{List}
use Rattle.meaning.specs.Rules.{Bytes}
use Rattle.clashes.specs.Clashes.{Clear}
use Rattle.clashes.proofs.first_clash.Given as goal

abbrev pub invariant-loop-fact : goal.invariant-loop-fact
invariant-loop-fact l = (names : List Bytes) → Clear names l.facts l.fact
