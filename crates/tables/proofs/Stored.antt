-- Laws of stored rows: what is read where a row was stored, and what stays as it was.
use mathlib.Core.Path.{◌≡◌, refl, sym, ap, subst, ◌∙◌}
use mathlib.Core.List.{List, [], ◌∷◌, ◌++◌, append_assoc}
use Prim.Native.Nat.{ℕ, zero, suc, ◌+◌, ◌-◌, ◌≤◌, ◌<◌}
use native.Mathlib.Omega.{arith}
use lib.ListN.{length, get_or, take, drop}
use lib.Seq.{length-paste, take-paste, drop-paste, take_at, drop_at, take-length, take-take, length-take-le, get_or-take, get_or-drop, drop-drop}
use Rattle.tables.specs.Stored.{with_row, Kept}

-- ---- parts of a table

-- a part of a part is a part
pub inner : (n j k : ℕ) (l : List ℕ) → j + k ≤ n → take k (drop j (take n l)) ≡ take k (drop j l)
inner n zero k l h = take-take k n l (omega arith)
inner zero (suc j) k l h = absurd (let z : ⊥ = omega arith in z)
inner (suc n) (suc j) k [] h = refl
inner (suc n) (suc j) k (x ∷ l) h = inner n j k l (omega arith)

pub part_of_part : (n at j k : ℕ) (l : List ℕ) → j + k ≤ n → take k (drop j (take n (drop at l))) ≡ take k (drop (at + j) l)
part_of_part n at j k l h = inner n j k (drop at l) h ∙ ap (λ (x : List ℕ). take k x) (drop-drop j at l)

pub number_of_part : (n at j : ℕ) (l : List ℕ) → j < n → get_or (take n (drop at l)) j 0 ≡ get_or l (at + j) 0
number_of_part n at j l h = get_or-take n (drop at l) j 0 h ∙ get_or-drop at l j 0

-- ---- a stored row

module _ (table : List ℕ) (at : ℕ) (row : List ℕ) (h : at + length row ≤ length table) where
  put_kept : Kept at (at + length row) table (with_row table at row)
  put_kept =
      let n = length row in
      record {
        long = length-paste table at row n h (omega arith);
        before =
            sym (take-take at (at + n) (with_row table at row) (omega arith))
            ∙ ap (λ (l : List ℕ). take at l) (take-paste table at row n (omega arith) (omega arith))
            ∙ take_at (take at table) (take n row) at (length-take-le at table (omega arith));
        behind = drop-paste table at row n (omega arith) (omega arith);
      }

  put_part : take (length row) (drop at (with_row table at row)) ≡ row
  put_part =
      let n = length row in
      ap (λ (l : List ℕ). take n (drop at l)) (append_assoc (take at table) (take n row) (drop (at + n) table))
      ∙ ap (λ (l : List ℕ). take n l) (drop_at (take at table) (take n row ++ drop (at + n) table) at (length-take-le at table (omega arith)))
      ∙ take_at (take n row) (drop (at + n) table) n (length-take-le n row (omega arith))
      ∙ take-length row

  -- the same, where the row's length is known
  module _ (n : ℕ) (e : length row ≡ n) where
    pub put_kept_of : Kept at (at + n) table (with_row table at row)
    put_kept_of = subst (λ (m : ℕ). Kept at (at + m) table (with_row table at row)) e put_kept

    pub put_part_of : take n (drop at (with_row table at row)) ≡ row
    put_part_of = subst (λ (m : ℕ). take m (drop at (with_row table at row)) ≡ row) e put_part

-- ---- what stays

pub kept_self : (a b : ℕ) (t : List ℕ) → Kept a b t t
kept_self a b t = record { long = refl; before = refl; behind = refl }

module _ {a b : ℕ} {t u : List ℕ} (k : Kept a b t u) where
  pub kept_then : {v : List ℕ} → Kept a b u v → Kept a b t v
  kept_then l = record { long = l.long ∙ k.long; before = l.before ∙ k.before; behind = l.behind ∙ k.behind }

  pub kept_wider : (c d : ℕ) → c ≤ a → b ≤ d → Kept c d t u
  kept_wider c d p q =
      let e : b + (d - b) ≡ d = omega arith in
      record {
        long = k.long;
        before = sym (take-take c a u p) ∙ ap (λ (l : List ℕ). take c l) k.before ∙ take-take c a t p;
        behind = rw (← e, ← (drop-drop (d - b) b u), ← (drop-drop (d - b) b t), k.behind);
      }

  -- a part before the changed numbers
  pub kept_part : (n at : ℕ) → at + n ≤ a → take n (drop at u) ≡ take n (drop at t)
  kept_part n at h = sym (inner a at n u h) ∙ ap (λ (l : List ℕ). take n (drop at l)) k.before ∙ inner a at n t h
