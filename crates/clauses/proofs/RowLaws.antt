-- One row more behind those of a rule's heads or of its body.
use mathlib.Core.Path.{◌≡◌, ap, ◌∙◌}
use mathlib.Core.List.{List, [], ◌∷◌, ◌++◌}
use Prim.Native.Nat.{ℕ, ◌+◌, ◌*◌, ◌≤◌}
use native.Mathlib.Omega.{arith}
use native.Mathlib.Numerals.{add-one}
use lib.ListN.{length}
use Rattle.codes.specs.Related.{Pairwise, end, pair}
use Rattle.codes.proofs.Pairwise.{pairwise_append}
use Rattle.tables.specs.Rows as tables
use Rattle.tables.specs.Layout.{literal_stride}
use Rattle.tables.specs.Stored.{with_row, Kept, row_at}
use Rattle.tables.proofs.Stored.{put_kept_of, put_part_of, kept_part}
use Rattle.tables.proofs.Strides.{from_same, from_last}

-- rows that stay as they were
pub rows_kept : {a b : ℕ} {literals literals' : List ℕ} → Kept a b literals literals' → (first n : ℕ) → (first + n) * literal_stride ≤ a → tables.from (row_at literals') n first ≡ tables.from (row_at literals) n first
rows_kept {literals = literals} {literals'} kept first n before = from_same (row_at literals') (row_at literals) n first (λ l p q. kept_part kept literal_stride (l * literal_stride) (omega arith))

module _ (first n : ℕ) (row literals : List ℕ) (full : length row ≡ literal_stride) (fits : (first + n) * literal_stride + literal_stride ≤ length literals) (literals' : List ℕ) (stored : literals' ≡ with_row literals ((first + n) * literal_stride) row) where
  inside : (first + n) * literal_stride + length row ≤ length literals
  inside = omega arith

  pub row_kept : Kept ((first + n) * literal_stride) ((first + n) * literal_stride + literal_stride) literals literals'
  row_kept = rw stored (put_kept_of literals ((first + n) * literal_stride) row inside literal_stride full)

  here : row_at literals' (first + n) ≡ row
  here = ap (λ (t : List ℕ). row_at t (first + n)) stored ∙ put_part_of literals ((first + n) * literal_stride) row inside literal_stride full

  -- what the rows stand for, and behind it what this one stands for
  pub row_more : {A : Type 0} {C : List ℕ → A → Type 0} {ms : List A} {m : A} → Pairwise C (tables.from (row_at literals) n first) ms → C row m → Pairwise C (tables.from (row_at literals') (n + 1) first) (ms ++ (m ∷ []))
  row_more coded one = rw (add-one n, from_last (row_at literals') n first, rows_kept row_kept first n (omega arith), here) (pairwise_append coded (pair one end))
