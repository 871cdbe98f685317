-- The table of names as names are put behind it.
use Rattle.std.specs.Prelude.{◌≡◌, List, ◌++◌, ℕ, ◌+◌, ◌≤◌, length}
use Rattle.texts.specs.Places.{span_from}
use Rattle.meaning.specs.Rules.{Bytes}
use Rattle.names.specs.Texts.{bytes_at}
use Rattle.names.specs.Table.{capacity, names_of, Table}

-- a table with room for n names more
pub record Room (program output : Bytes) (names : List ℕ) (n : ℕ) : Type 0 where
  pub in_order : Table program output names
  pub room : length (names_of program output names) + n ≤ capacity (length names)

-- the text stands in the two texts from `base` on
abbrev pub Source : Bytes → Bytes → Bytes → ℕ → Type 0
Source program output text base = text ≡ bytes_at program output (span_from base (length text))

-- the names of before, and at most n behind them
pub record Grows (program output : Bytes) (names : List ℕ) (n : ℕ) (names' : List ℕ) : Type 0 where
  pub in_order : Table program output names'
  pub more : List Bytes
  pub behind : names_of program output names' ≡ names_of program output names ++ more
  pub few : length more ≤ n
  pub long : length names' ≡ length names
