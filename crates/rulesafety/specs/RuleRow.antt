-- A rule's own row, over its literals' rows: what is asked where it is stored, and what it then says.
use Rattle.std.specs.Prelude.{◌≡◌, Bool, false, not, ◌&&◌, ◌||◌, List, map, ℕ, zero, suc, ◌+◌, ◌*◌, ◌≤◌, ◌<◌, eqb, ltb, length, take, drop}
use Rattle.std.specs.Int.{from_bool}
use Rattle.meaning.specs.Sets.{In, any}
use Rattle.meaning.specs.Safety as meaning
use Rattle.grammar.specs.Sizes.{most_heads, most_literals}
use Rattle.tables.specs.Layout.{sort_column, operation_column, builtin_sort, rule_rows, rule_stride, first_head_column, heads_column, first_literal_column, literals_column, has_operation_column, equations_column, positives_column, equation_places_column, positive_places_column}
use Rattle.tables.specs.Rows.{from, literal_column, atom_at, no_operation, literal_at, equation_at, rule_column, equation_places, positive_places}
use Rattle.tables.specs.WellFormed.{has_operation}
use Rattle.tables.specs.Stored.{Kept}
use Rattle.rulesafety.specs.declared.bound.Bound.{Bound}
use Rattle.rulesafety.specs.declared.rule_row.Numbers.{Numbers}
use Rattle.rulesafety.specs.Bound.{bits_of, BodyInside, body_at}
use Rattle.rulesafety.specs.Scanned.{Binds}

-- the row is that of a built-in with an operation
unfoldable pub row_operation : List ℕ → ℕ → Bool
row_operation literals l = not (ltb (literal_column literals l sort_column) builtin_sort) && not (eqb (literal_column literals l operation_column) no_operation)

-- some row among n from k on is
unfoldable pub some_operation : List ℕ → ℕ → ℕ → Bool
some_operation literals zero k = false
some_operation literals (suc n) k = row_operation literals k || some_operation literals n (suc k)

-- the numbers of a rule, as they stand in its row; its heads have the first rows of its number, its body the rows from `first` on
pub record NumbersStored (rules : List ℕ) (number first : ℕ) (n : Numbers) (rules' : List ℕ) : Type 0 where
  pub kept : Kept (number * rule_stride) (number * rule_stride + rule_stride) rules rules'
  pub head_row : rule_column rules' number first_head_column ≡ number * rule_rows
  pub heads : rule_column rules' number heads_column ≡ n.heads
  pub first_row : rule_column rules' number first_literal_column ≡ first
  pub literals : rule_column rules' number literals_column ≡ n.literals
  pub operation : rule_column rules' number has_operation_column ≡ from_bool n.operation
  pub equation_count : rule_column rules' number equations_column ≡ n.equations.count
  pub positive_count : rule_column rules' number positives_column ≡ n.positives.count
  pub equations : take most_literals (drop (number * rule_stride + equation_places_column) rules') ≡ n.equations.rows
  pub positives : take most_literals (drop (number * rule_stride + positive_places_column) rules') ≡ n.positives.rows

-- the first row of the body of the rule with a number: behind those for its heads
abbrev pub first_of_body : ℕ → ℕ
first_of_body number = number * rule_rows + most_heads

-- what is asked: the body's rows and the rule's lie in their tables
pub record Storable (rules literals : List ℕ) (number count : ℕ) : Type 0 where
  pub body : BodyInside literals (first_of_body number) count
  pub few : count ≤ most_literals
  pub long : number * rule_stride + rule_stride ≤ length rules

-- b: the variables that the body binds. Whether the rule is safe is not asked: that is told by b
pub record RowStored (rules literals : List ℕ) (number heads count : ℕ) (b : Bound) (rules' : List ℕ) : Type 0 where
  pub kept : Kept (number * rule_stride) (number * rule_stride + rule_stride) rules rules'
  pub head_row : rule_column rules' number first_head_column ≡ number * rule_rows
  pub heads_size : rule_column rules' number heads_column ≡ heads
  pub first_row : rule_column rules' number first_literal_column ≡ first_of_body number
  pub size : rule_column rules' number literals_column ≡ count
  pub silent : rule_column rules' number has_operation_column ≡ 0 → any has_operation (from (literal_at literals) count (first_of_body number)) ≡ false
  pub few_equations : rule_column rules' number equations_column ≤ most_literals
  pub equations : map (equation_at literals) (equation_places rules' number) ≡ meaning.equations (body_at literals (first_of_body number) count)
  pub binds : (l : ℕ) → In l (equation_places rules' number) → Binds literals (first_of_body number) count l
  pub few_positives : rule_column rules' number positives_column ≤ most_literals
  pub positives : map (atom_at literals) (positive_places rules' number) ≡ meaning.positives (from (literal_at literals) count (first_of_body number))
  pub in_body : (l : ℕ) → In l (positive_places rules' number) → (first_of_body number ≤ l) × (l < first_of_body number + count)
  pub bits : (x : ℕ) → bits_of b x ≡ meaning.bound (body_at literals (first_of_body number) count) x
