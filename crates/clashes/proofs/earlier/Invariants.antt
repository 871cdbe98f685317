-- `earlier` meets its contract. The invariant: no fact before j is alike, and j stands in the chain of the row or past the last fact. The
-- measure is how many facts before k are left. Assumes nothing.
use Rattle.clashes.proofs.Search.{Passed}
use Rattle.chains.specs.Links.{InChain, Linked}
use Rattle.tables.specs.WellFormed.{FactTable}
use Rattle.meaning.specs.Rules.{Bytes}
use Prim.Native.Nat.{ℕ, ◌≤◌, ◌<◌, ◌-◌}
use mathlib.Core.List.{List}
use Rattle.clashes.proofs.earlier.Given as goal

abbrev pub invariant-loop-j : goal.invariant-loop-j
invariant-loop-j l = (count : ℕ) → FactTable l.facts count → Linked l.links l.facts count → l.k < count → (l.j ≤ count) × (l.j < count → InChain l.facts l.c l.j) × ((names : List Bytes) → Passed names l.facts l.opposed l.k l.j)

abbrev pub decreases-loop-j : goal.decreases-loop-j
decreases-loop-j l = l.k - l.j
