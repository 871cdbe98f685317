-- Names to numbers: the number of a name is its place in the list of distinct names.
use Rattle.std.specs.Prelude.{◌≡◌, ◌⊎◌, List, [], ◌∷◌, ◌++◌, ℕ, ◌≤◌, length, Option, None, Some}
use Rattle.std.proofs.Math.Option.{some}
use Rattle.std.proofs.Math.ListN.{get_elem?}
use Rattle.texts.specs.Sizes.{most_text}
use Rattle.meaning.specs.Rules.{Bytes}
use Rattle.names.specs.Table.{capacity, names_of, Table}

abbrev pub Absent : List Bytes → Bytes → Type 0
Absent names name = (i : ℕ) → get_elem? names i ≡ some name → ⊥

-- beside any two texts within their size, a table in order that has no names and room for n
pub record Empty (n : ℕ) (table : List ℕ) : Type 0 where
  pub in_order : (program output : Bytes) → length program ≤ most_text → length output ≤ most_text → Table program output table
  pub no_names : (program output : Bytes) → names_of program output table ≡ []
  pub room : n ≤ capacity (length table)

-- the answer to where a name stands
abbrev pub Finds : List Bytes → Bytes → Option ℕ → Type 0
Finds names name (Some i) = get_elem? names i ≡ some name
Finds names name None = Absent names name

-- a name's number in the list that holds it: the list itself, or the list with the name behind it where it was not there
pub data Grown (names : List Bytes) (name : Bytes) : List Bytes → ℕ → Type 0 where
  held : {i : ℕ} → get_elem? names i ≡ some name → Grown names name names i
  added : Absent names name → Grown names name (names ++ (name ∷ [])) (length names)

-- the table afterwards and the answer: the name has a number, or it is empty or new to a full table, and nothing changes
abbrev pub Interns : Bytes → Bytes → List ℕ → Bytes → List ℕ → Option ℕ → Type 0
Interns program output table name table' (Some i) = Table program output table' × Grown (names_of program output table) name (names_of program output table') i × (length table' ≡ length table)
Interns program output table name table' None =
    (table' ≡ table) × ((name ≡ []) ⊎ (Absent (names_of program output table) name × (length (names_of program output table) ≡ capacity (length table))))
