-- The rows of a body that stand for its literals, and those of heads: they are related to them, and a body's are as the engine asks.
use mathlib.Core.Path.{◌≡◌, refl, sym, ◌∙◌}
use mathlib.Core.Bool.{Bool, true, false}
use mathlib.Core.List.{List, map}
use Prim.Native.Nat.{ℕ, zero, suc, ◌+◌, ◌≤◌, ◌<◌}
use native.Mathlib.Omega.{arith}
use lib.Dec.{eqb}
use lib.ListN.{length}
use borrow.Author.Tests.{eqb-true, eqb-false}
use Rattle.meaning.specs.Rules.{Bytes, Term, Atom, Literal}
use Rattle.meaning.specs.Values.{Value}
use Rattle.codes.specs.Codes.{Coded}
use Rattle.codes.specs.Predicates.{CodedName}
use Rattle.codes.specs.Related.{Pairwise, end, pair, RelatedTerm, RelatedAtom, RelatedLiteral}
use Rattle.tables.specs.Layout.{sort_column, operation_column, terms_column, first_column, second_column, negated_sort}
use Rattle.tables.specs.Rows.{from, literal_column, atom_at, literal_at}
use Rattle.tables.specs.WellFormed.{SideRow}
use Rattle.tables.specs.Stored.{row_at}
use Rattle.tables.specs.Coded.{HeadsCoded, BodyCoded}
use Rattle.tables.proofs.Strides.{from_same, from_map}
use Rattle.tables.proofs.RowParts.{column_part, atom_part, literal_part}

-- where each row stands for something, what is read of the rows is related to those things
rows_related : {A B : Type 0} {C : List ℕ → B → Type 0} {R : A → B → Type 0} (f : List ℕ → A) → ((row : List ℕ) (m : B) → C row m → R (f row) m) → {rows : List (List ℕ)} {ms : List B} → Pairwise C rows ms → Pairwise R (map f rows) ms
rows_related f law end = end
rows_related f law (pair h hs) = pair (law _ _ h) (rows_related f law hs)

-- a thing that is read of its row alone
read_of_rows : {A : Type 0} (f : List ℕ → ℕ → A) (literals : List ℕ) (n first : ℕ) → ((l : ℕ) → f literals l ≡ f (row_at literals l) 0) → map (λ row. f row 0) (from (row_at literals) n first) ≡ from (f literals) n first
read_of_rows f literals n first part = from_map (λ row. f row 0) (row_at literals) n first ∙ from_same (λ l. f (row_at literals l) 0) (f literals) n first (λ l p q. sym (part l))

-- what is related to the thing at a place
at_row : {A B : Type 0} {C : A → B → Type 0} (f : ℕ → A) (n k : ℕ) (ms : List B) → Pairwise C (from f n k) ms → (l : ℕ) → k ≤ l → l < k + n → (m : B) × C (f l) m
unfolding from
at_row f zero k ms h l p q = absurd (let y : ⊥ = omega arith in y)
at_row {A} {B} {C} f (suc n) k _ (pair c cs) l p q = go (eqb l k) refl (λ s. at_row f n (suc k) _ cs l s (omega arith))
  where
    go : (t : Bool) → eqb l k ≡ t → (suc k ≤ l → (m : B) × C (f l) m) → (m : B) × C (f l) m
    go true e rec = let z : l ≡ k = eqb-true l k e in rw z (_, c)
    go false e rec = rec (let z = eqb-false l k e in omega arith)

pub related_heads : (names : List Bytes) (literals : List ℕ) (first : ℕ) (hs : List (Atom (Term Value))) → HeadsCoded names literals first hs → Pairwise (RelatedAtom (CodedName names) (RelatedTerm (Coded names))) (from (atom_at literals) (length hs) first) hs
related_heads names literals first hs coded = rw (read_of_rows atom_at literals (length hs) first (atom_part literals)) at (rows_related {R = RelatedAtom (CodedName names) (RelatedTerm (Coded names))} (λ row. atom_at row 0) (λ row a h. h) coded)

module _ (names : List Bytes) (literals : List ℕ) (first : ℕ) (ms : List (Literal Value)) (coded : BodyCoded names literals first ms) where
  pub related_body : Pairwise (RelatedLiteral (CodedName names) (Coded names)) (from (literal_at literals) (length ms) first) ms
  related_body = rw (read_of_rows literal_at literals (length ms) first (literal_part literals)) at (rows_related {R = RelatedLiteral (CodedName names) (Coded names)} (λ row. literal_at row 0) (λ row m h. h.related) coded)

  pub side_row : (l : ℕ) → first ≤ l → l < first + length ms → negated_sort < literal_column literals l sort_column → SideRow literals l
  side_row l p q h =
      let m = at_row (row_at literals) (length ms) first ms coded l p q in
      let s = m.1.side (rw (column_part literals l sort_column (omega arith)) at h) in
      record {
        on_left = λ e. s.on_left (sym (column_part literals l terms_column (omega arith)) ∙ e);
        first = λ e. s.first (sym (column_part literals l first_column (omega arith)) ∙ e);
        second = λ o e. s.second (λ z. o (column_part literals l operation_column (omega arith) ∙ z)) (sym (column_part literals l second_column (omega arith)) ∙ e);
      }
