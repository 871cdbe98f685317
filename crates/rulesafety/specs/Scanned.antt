-- What the scan of a body's rows gives, in the words of the meaning: the bound variables, and the rows of the equations that bind them.
use Rattle.std.specs.Prelude.{◌≡◌, Bool, Option, Some, None, not, cond, ◌&&◌, List, map, ℕ, zero, suc, ◌+◌, ◌≤◌, ◌<◌, eqb, ltb}
use Rattle.meaning.specs.Sets.{In}
use Rattle.meaning.specs.Safety as meaning
use Rattle.codes.specs.Arithmetic.{equal_code}
use Rattle.grammar.specs.Sizes.{most_literals, most_variables}
use Rattle.tables.specs.Layout.{sort_column, comparison_column, terms_column, builtin_sort}
use Rattle.tables.specs.Rows.{term_of, literal_column, side_at, equation_at}
use Rattle.rulesafety.specs.declared.scan.Scan.{Scan}
use Rattle.rulesafety.specs.Bound.{bits_of, with_variable, body_at}
use Rattle.rulesafety.specs.Listed.{listed, with_listed}

-- ---- a gain

-- B: the variables that are bound. An equation with an unbound variable alone on its left, and its right side bound
unfoldable pub gains : (ℕ → Bool) → List ℕ → ℕ → Bool
gains B literals l =
    not (ltb (literal_column literals l sort_column) builtin_sort)
    && (eqb (literal_column literals l comparison_column) equal_code && (not (meaning.term_bound B (term_of (literal_column literals l terms_column))) && meaning.side_bound B (side_at literals l)))

-- the first that gains, of n from k on
unfoldable pub first_gain : (ℕ → Bool) → ℕ → ℕ → Option ℕ
first_gain p zero k = None
first_gain p (suc n) k = cond (p k) (Some k) (first_gain p n (suc k))

-- one equation more
abbrev pub with_equation : Scan → ℕ → ℕ → Scan
with_equation s l x = record { bound = with_variable s.bound x; equations = with_listed s.equations l }

-- ---- the whole scan

-- a row of the body that is an equation with a variable alone on its left
pub record Binds (literals : List ℕ) (first count l : ℕ) : Type 0 where
  pub from_first : first ≤ l
  pub before_end : l < first + count
  pub built_in : builtin_sort ≤ literal_column literals l sort_column
  pub left : literal_column literals l terms_column < most_variables

-- s is what the scan of the body gives
pub record Scanned (literals : List ℕ) (first count : ℕ) (s : Scan) : Type 0 where
  -- the variables that are bound in the end
  pub bits : (x : ℕ) → bits_of s.bound x ≡ meaning.bound (body_at literals first count) x
  -- the equations that bind, in the order in which they do
  pub equations : map (equation_at literals) (listed s.equations) ≡ meaning.equations (body_at literals first count)
  pub few : s.equations.count ≤ most_literals
  pub binds : (l : ℕ) → In l (listed s.equations) → Binds literals first count l
