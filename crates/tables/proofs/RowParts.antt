-- A literal is what its row says, and so is a fact: those with the same row are the same.
use mathlib.Core.Path.{◌≡◌, sym, ap, ◌∙◌}
use mathlib.Core.List.{List}
use Prim.Native.Nat.{ℕ, ◌+◌, ◌*◌, ◌<◌}
use native.Mathlib.Omega.{arith}
use lib.ListN.{get_or, take, drop}
use Rattle.tables.specs.Layout.{fact_stride, arguments_column, literal_stride, sort_column, predicate_column, comparison_column, operation_column, terms_column, first_column, second_column}
use Rattle.tables.specs.Rows.{arity, literal_column, atom_at, side_at, literal_at, equation_at, fact_predicate}
use Rattle.tables.specs.Stored.{row_at}
use Rattle.tables.proofs.Stored.{part_of_part, number_of_part}

module _ (literals : List ℕ) (l : ℕ) where
  pub column_part : (c : ℕ) → c < literal_stride → literal_column literals l c ≡ get_or (row_at literals l) c 0
  column_part c h = sym (number_of_part literal_stride (l * literal_stride) c literals h)

  terms_part : (p : ℕ) → take (arity p) (drop (l * literal_stride + terms_column) literals) ≡ take (arity p) (drop terms_column (row_at literals l))
  terms_part p = sym (part_of_part literal_stride (l * literal_stride) terms_column (arity p) literals (omega arith))

  pub atom_part : atom_at literals l ≡ atom_at (row_at literals l) 0
  unfolding atom_at
  atom_part = rw (column_part predicate_column (omega arith), terms_part (get_or (row_at literals l) predicate_column 0))

  pub side_part : side_at literals l ≡ side_at (row_at literals l) 0
  unfolding side_at
  side_part = rw (column_part operation_column (omega arith), column_part first_column (omega arith), column_part second_column (omega arith))

  pub literal_part : literal_at literals l ≡ literal_at (row_at literals l) 0
  unfolding literal_at
  literal_part = rw (column_part sort_column (omega arith), column_part comparison_column (omega arith), column_part terms_column (omega arith), atom_part, side_part)

  pub equation_part : equation_at literals l ≡ equation_at (row_at literals l) 0
  unfolding equation_at
  equation_part = rw (column_part terms_column (omega arith), side_part)

module _ (facts : List ℕ) (k : ℕ) where
  pub predicate_part : fact_predicate facts k ≡ get_or (take fact_stride (drop (k * fact_stride) facts)) 0 0
  predicate_part = let z : k * fact_stride + 0 ≡ k * fact_stride = omega arith in ap (λ (i : ℕ). get_or facts i 0) (sym z) ∙ sym (number_of_part fact_stride (k * fact_stride) 0 facts (omega arith))

  pub arguments_part : (p : ℕ) → take (arity p) (drop (k * fact_stride + arguments_column) facts) ≡ take (arity p) (drop arguments_column (take fact_stride (drop (k * fact_stride) facts)))
  arguments_part p = sym (part_of_part fact_stride (k * fact_stride) arguments_column (arity p) facts (omega arith))
