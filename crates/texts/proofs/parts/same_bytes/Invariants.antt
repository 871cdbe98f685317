-- `parts::same_bytes` meets its contract. The invariant: the bytes seen, from the last one back, are the same. Assumes nothing.
use Prim.Native.Nat.{◌-◌}
use mathlib.Core.Path.{◌≡◌}
use mathlib.Core.Bool.{true}
use lib.ListN.{length, drop}
use Rattle.meaning.specs.Values.{same_bytes}
use Rattle.texts.proofs.parts.same_bytes.Given as goal

abbrev pub invariant-loop-seen : goal.invariant-loop-seen
invariant-loop-seen l = same_bytes (drop (length l.a - l.seen) l.a) (drop (length l.a - l.seen) l.b) ≡ true
