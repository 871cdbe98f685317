-- The two parts of a list that are sorted by themselves, and then joined.
use mathlib.Core.Path.{◌≡◌, sym, ap, ap₂, subst, ◌∙◌}
use mathlib.Core.List.{List, ◌++◌}
use Prim.Native.Nat.{ℕ, ◌+◌, ◌-◌, ◌≤◌}
use native.Mathlib.Omega.{arith}
use borrow.Rule.Slice.PartMut.{mid_of, put_mid}
use lib.ListN.{length, take, drop, length-take, length-drop}
use lib.Seq.{take_all}
use Rattle.meaning.specs.Rules.{Bytes}
use Rattle.ranks.specs.Sorting.{Sorted, times, Merges, Sorts}
use Rattle.ranks.proofs.Counts.{times_append, times_parts}

-- ---- the parts, as they are lent

module _ (order : List ℕ) (m : ℕ) where
  pub left_part : take (m - 0) order ≡ take m order
  left_part = let z : m - 0 ≡ m = omega arith in rw z

  pub right_part : take (length order - m) (drop m order) ≡ drop m order
  right_part = take_all (length order - m) (drop m order) (simp length-drop (omega arith))

  module _ (names : List Bytes) where
    pub left_sorted : Sorted names (take m order) → Sorted names (take (m - 0) order)
    left_sorted s = subst (λ (l : List ℕ). Sorted names l) (sym left_part) s

    pub right_sorted : Sorted names (drop m order) → Sorted names (take (length order - m) (drop m order))
    right_sorted s = subst (λ (l : List ℕ). Sorted names l) (sym right_part) s

    pub joined : (merged : List ℕ) → Merges names (take (m - 0) order) (take (length order - m) (drop m order)) merged → Sorts names order merged
    joined merged e = record { sorted = e.sorted; same = λ x. e.same x ∙ ap₂ ◌+◌ (ap (times x) left_part) (ap (times x) right_part) ∙ times_parts x m order }

  pub part_lengths : m ≤ length order → length order ≡ length (take (m - 0) order) + length (take (length order - m) (drop m order))
  part_lengths h = rw (left_part, right_part) (simp (length-take, length-drop) (omega arith))

-- ---- a part put back

pub times_put : (x a k : ℕ) (whole part : List ℕ) → times x part ≡ times x (mid_of a k whole) → times x (put_mid a k whole part) ≡ times x whole
times_put x a k whole part e =
    let p = times_append x (take a whole) (part ++ drop k (drop a whole)) in
    let q = times_append x part (drop k (drop a whole)) in
    let r = times_parts x k (drop a whole) in
    let s = times_parts x a whole in
    omega arith

-- the list with its left part sorted, and then with both
abbrev pub once : ℕ → List ℕ → List ℕ → List ℕ
once m order first = first ++ drop (m - 0) order

abbrev pub twice : ℕ → List ℕ → List ℕ → List ℕ → List ℕ
twice m order first second = put_mid m (length (once m order first) - m) (once m order first) second

module _ (m : ℕ) (order first second : List ℕ) (names : List Bytes) (sorts_one : Sorts names (take (m - 0) order) first) (sorts_two : Sorts names (mid_of m (length (once m order first) - m) (once m order first)) second) where
  pub sorts_whole : (after : List ℕ) → Sorts names (twice m order first second) after → Sorts names order after
  sorts_whole after e =
      record {
        sorted = e.sorted;
        same = λ x. e.same x ∙ times_put x m (length (once m order first) - m) (once m order first) second (sorts_two.same x) ∙ times_put x 0 (m - 0) order first (sorts_one.same x);
      }
