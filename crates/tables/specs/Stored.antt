-- Rows stored in a table, and what stays as it was.
use Rattle.std.specs.Prelude.{◌≡◌, List, ℕ, ◌*◌, length, take, drop}
use Rattle.std.proofs.Math.Seq.{paste}
use Rattle.tables.specs.Layout.{literal_stride}

-- the table with these numbers from a place on
abbrev pub with_row : List ℕ → ℕ → List ℕ → List ℕ
with_row table at row = paste table at row (length row)

-- only numbers from the place a to the place b are others
pub record Kept (a b : ℕ) (table table' : List ℕ) : Type 0 where
  pub long : length table' ≡ length table
  pub before : take a table' ≡ take a table
  pub behind : drop b table' ≡ drop b table

-- the row of a literal
abbrev pub row_at : List ℕ → ℕ → List ℕ
row_at literals l = take literal_stride (drop (l * literal_stride) literals)
