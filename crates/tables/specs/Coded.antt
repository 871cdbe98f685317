-- Rows that stand for literals, beside the list of the names that their numbers are of.
use Rattle.std.specs.Prelude.{List, ℕ, ◌<◌, length}
use Rattle.meaning.specs.Rules.{Bytes, Term, Atom, Literal}
use Rattle.meaning.specs.Values.{Value}
use Rattle.codes.specs.Codes.{Coded}
use Rattle.codes.specs.Predicates.{CodedName}
use Rattle.codes.specs.Related.{Pairwise, RelatedTerm, RelatedAtom, RelatedLiteral}
use Rattle.tables.specs.Layout.{sort_column, negated_sort}
use Rattle.tables.specs.Rows.{from, literal_column, atom_at, literal_at}
use Rattle.tables.specs.WellFormed.{SideRow}
use Rattle.tables.specs.Stored.{row_at}

-- the row, as the only one of a table, stands for the literal
pub record CodedLiteral (names : List Bytes) (row : List ℕ) (l : Literal Value) : Type 0 where
  pub related : RelatedLiteral (CodedName names) (Coded names) (literal_at row 0) l
  pub side : negated_sort < literal_column row 0 sort_column → SideRow row 0

-- the row, as the only one of a table, stands for the head atom
abbrev pub CodedHead : List Bytes → List ℕ → Atom (Term Value) → Type 0
CodedHead names row a = RelatedAtom (CodedName names) (RelatedTerm (Coded names)) (atom_at row 0) a

-- the rows from `first` on stand for the head atoms
abbrev pub HeadsCoded : List Bytes → List ℕ → ℕ → List (Atom (Term Value)) → Type 0
HeadsCoded names literals first hs = Pairwise (CodedHead names) (from (row_at literals) (length hs) first) hs

-- the rows from `first` on stand for the literals
abbrev pub BodyCoded : List Bytes → List ℕ → ℕ → List (Literal Value) → Type 0
BodyCoded names literals first ms = Pairwise (CodedLiteral names) (from (row_at literals) (length ms) first) ms
