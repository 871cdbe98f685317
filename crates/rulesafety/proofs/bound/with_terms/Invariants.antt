-- `bound::with_terms` meets its contract. The invariant: the variables of the terms before this one are added. Assumes nothing.
use mathlib.Core.List.{map}
use lib.ListN.{take}
use Rattle.meaning.specs.Sets.{any}
use Rattle.meaning.specs.Safety.{in_term}
use Rattle.tables.specs.Rows.{term_of}
use Rattle.rulesafety.specs.Bound.{Adds}
use Rattle.rulesafety.proofs.bound.with_terms.Given as goal

abbrev pub invariant-loop-code : goal.invariant-loop-code
invariant-loop-code l = Adds l.initial.bound l.bound (λ x. any (in_term x) (map term_of (take l.code-index l.terms)))
