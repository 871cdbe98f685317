-- Rows of literals, listed one behind the other, and those of a body's positive atoms.
use Rattle.std.specs.Prelude.{◌≡◌, cond, List, [], ◌∷◌, ℕ, zero, suc, ◌+◌, ◌≤◌, eqb, set, take, replicate}
use Rattle.grammar.specs.Sizes.{most_literals}
use Rattle.tables.specs.Layout.{sort_column, positive_sort}
use Rattle.tables.specs.Rows.{literal_column}
use Rattle.rulesafety.specs.declared.listed.Rows.{Rows}

abbrev pub listed : Rows → List ℕ
listed r = take r.count r.rows

abbrev pub no_rows : Rows
no_rows = record { rows = replicate most_literals 0; count = 0 }

-- with one more behind them, for which there is room
abbrev pub with_listed : Rows → ℕ → Rows
with_listed r l = record { rows = set r.rows r.count l; count = r.count + 1 }

-- these rows are listed
pub record Lists (r : Rows) (rows : List ℕ) : Type 0 where
  pub are : listed r ≡ rows
  pub few : r.count ≤ most_literals

-- the rows of the positive literals among n from k on
unfoldable pub positive_rows : List ℕ → ℕ → ℕ → List ℕ
positive_rows literals zero k = []
positive_rows literals (suc n) k = cond (eqb (literal_column literals k sort_column) positive_sort) (k ∷ positive_rows literals n (suc k)) (positive_rows literals n (suc k))
