-- Whether a row is that of a built-in with an operation, by the tests of the code; whether some row of a body is, as a loop finds it, and what it
-- says of the body's literals.
use mathlib.Core.Path.{◌≡◌, refl, sym}
use mathlib.Core.Bool.{Bool, true, false, true≢false}
use mathlib.Core.List.{List}
use Prim.Native.Nat.{ℕ, zero, suc, ◌≤◌, ◌<◌}
use native.Mathlib.Omega.{arith}
use native.Mathlib.Numerals.{add-one}
use lib.Dec.{eqb}
use borrow.Author.Tests.{eqb-false, eq-eqb, ne_eqb, lt-ltb, le-ltb}
use Rattle.std.specs.Int.{from_bool}
use Rattle.std.specs.List.{list_any, range_with_len}
use Rattle.meaning.specs.Sets.{any}
use Rattle.tables.specs.Layout.{sort_column, operation_column, positive_sort, negated_sort, builtin_sort}
use Rattle.tables.specs.Rows.{from, literal_column, no_operation, side_at, literal_at}
use Rattle.tables.specs.WellFormed.{has_operation}
use Rattle.rulesafety.specs.RuleRow.{row_operation, some_operation}

module _ (literals : List ℕ) where
  -- ---- one row

  module _ (l : ℕ) where
    pub classical_row : literal_column literals l sort_column < builtin_sort → false ≡ row_operation literals l
    unfolding row_operation
    classical_row h = rw (lt-ltb _ _ h)

    module _ (built_in : builtin_sort ≤ literal_column literals l sort_column) where
      pub plain_row : literal_column literals l operation_column ≡ no_operation → false ≡ row_operation literals l
      unfolding row_operation
      plain_row e = rw (le-ltb _ _ built_in, eq-eqb _ _ e)

      pub computed_row : (literal_column literals l operation_column ≡ no_operation → ⊥) → true ≡ row_operation literals l
      unfolding row_operation
      computed_row n = rw (le-ltb _ _ built_in, ne_eqb _ _ n)

    silent_row : row_operation literals l ≡ false → has_operation (literal_at literals l) ≡ false
    unfolding row_operation has_operation literal_at side_at
    silent_row h = go (eqb (literal_column literals l sort_column) positive_sort) refl (eqb (literal_column literals l sort_column) negated_sort) refl (eqb (literal_column literals l operation_column) no_operation) refl
      where
        go : (a : Bool) → eqb (literal_column literals l sort_column) positive_sort ≡ a → (b : Bool) → eqb (literal_column literals l sort_column) negated_sort ≡ b → (o : Bool) → eqb (literal_column literals l operation_column) no_operation ≡ o → has_operation (literal_at literals l) ≡ false
        go true p b q o r = rw p
        go false p true q o r = rw (p, q)
        go false p false q true r = rw (p, q, r)
        go false p false q false r =
            let y = eqb-false (literal_column literals l sort_column) positive_sort p in
            let z = eqb-false (literal_column literals l sort_column) negated_sort q in
            absurd (true≢false (rw (le-ltb (literal_column literals l sort_column) builtin_sort (omega arith), r) at h))

  -- ---- the rows of a body

  pub operation_found : (n k : ℕ) → list_any (row_operation literals) (range_with_len k n) ≡ some_operation literals n k
  unfolding some_operation
  operation_found zero k = refl
  operation_found (suc n) k = rw (add-one k, operation_found n (suc k))

  no_row : (n k : ℕ) → some_operation literals n k ≡ false → any has_operation (from (literal_at literals) n k) ≡ false
  unfolding some_operation any from
  no_row zero k h = refl
  no_row (suc n) k h = go (row_operation literals k) refl h (no_row n (suc k))
    where
      go : (b : Bool) → row_operation literals k ≡ b → some_operation literals (suc n) k ≡ false → (some_operation literals n (suc k) ≡ false → any has_operation (from (literal_at literals) n (suc k)) ≡ false) → any has_operation (from (literal_at literals) (suc n) k) ≡ false
      go true e g rec = absurd (true≢false (rw e at g))
      go false e g rec = rw (silent_row k e) (rec (rw e at g))

  -- a 0 says that no literal has one
  pub operation_told : (count first : ℕ) (b : Bool) → b ≡ some_operation literals count first → from_bool b ≡ 0 → any has_operation (from (literal_at literals) count first) ≡ false
  operation_told count first true is h = absurd (let y : ⊥ = omega arith in y)
  operation_told count first false is h = no_row count first (sym is)
