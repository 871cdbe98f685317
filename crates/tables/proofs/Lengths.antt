-- How long the terms of a literal's row and the arguments of a fact's row are.
use mathlib.Core.Path.{◌≡◌}
use mathlib.Core.List.{List}
use Prim.Native.Nat.{ℕ, ◌+◌, ◌*◌, ◌≤◌, ◌<◌}
use native.Mathlib.Omega.{arith}
use lib.ListN.{length}
use Rattle.tables.specs.Layout.{fact_stride, arguments_column, literal_stride, predicate_column, terms_column}
use Rattle.tables.specs.Rows.{arity, fact_predicate, fact_arguments, literal_terms, literal_column}
use Rattle.tables.specs.WellFormed.{FactTable, Inside}
use Rattle.tables.proofs.Strides.{part_length}

pub few_arguments : (p : ℕ) → arity p ≤ 8
few_arguments p = omega arith

pub terms_length : (literals : List ℕ) (l : ℕ) → Inside literals l → length (literal_terms literals l) ≡ arity (literal_column literals l predicate_column)
terms_length literals l h = part_length _ (l * literal_stride + terms_column) literals (omega (arith, few_arguments (literal_column literals l predicate_column)))

pub arguments_length : (facts : List ℕ) (count f : ℕ) → FactTable facts count → f < count → length (fact_arguments facts f) ≡ arity (fact_predicate facts f)
arguments_length facts count f t h = part_length _ (f * fact_stride + arguments_column) facts (omega (arith, few_arguments (fact_predicate facts f), t.long))
