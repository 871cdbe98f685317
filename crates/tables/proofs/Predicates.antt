-- The predicate of a row's atom is its number's.
use mathlib.Core.Path.{◌≡◌}
use mathlib.Core.List.{List}
use Prim.Native.Nat.{ℕ}
use lib.ListN.{length}
use Rattle.meaning.specs.Rules.{predicate}
use Rattle.codes.specs.Predicates.{predicate_of}
use Rattle.tables.specs.Rows.{arity, atom_with}

pub predicate_with : {X : Type 0} (p : ℕ) (xs : List X) → length xs ≡ arity p → predicate (atom_with p xs) ≡ predicate_of p
unfolding predicate atom_with predicate_of
predicate_with p xs e = rw e
