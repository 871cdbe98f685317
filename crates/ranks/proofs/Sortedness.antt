-- A sorted list of all numbers gives each name its rank.
use mathlib.Core.Path.{◌≡◌, refl, sym, ap, ap₂, subst, ◌∙◌}
use mathlib.Core.Bool.{Bool, true, false}
use mathlib.Core.Option.{some}
use mathlib.Core.List.{List, []}
use Prim.Native.Nat.{ℕ, zero, suc, ◌≤◌, ◌<◌}
use native.Mathlib.Omega.{arith}
use borrow.Author.Tests.{eqb-true, eqb-false, ltb-true, ltb-false}
use lib.Dec.{eqb, ltb}
use lib.ListN.{length, get_or}
use Rattle.meaning.specs.Rules.{Bytes}
use Rattle.meaning.specs.Values.{bytes_before}
use Rattle.meaning.proofs.Sets.{element_at}
use Rattle.codes.specs.Codes.{Distinct}
use Rattle.ranks.specs.Ranks.{Ranked}
use Rattle.ranks.specs.Sorting.{InOrder, Sorted, times, numbers, Apart, Inverse}
use Rattle.ranks.proofs.Earlier.{never_itself, neither_same, through}
use Rattle.ranks.proofs.Counts.{stands_somewhere, counted, stands_once, numbers_past, numbers_within}

module _ (names : List Bytes) where
  pub in_order_through : {a b c : ℕ} → InOrder names a b → InOrder names b c → InOrder names a c
  in_order_through {a} {b} {c} h k = record { not_before = through (get_or names a []) (get_or names b []) (get_or names c []) h.not_before k.not_before }

  pub sorted_all : (l : List ℕ) → Sorted names l → (i j : ℕ) → i < j → j < length l → InOrder names (get_or l i 0) (get_or l j 0)
  sorted_all l s i zero h k = absurd (omega arith)
  sorted_all l s i (suc j) h k = go (eqb i j) refl (sorted_all l s i j)
    where
      go : (t : Bool) → eqb i j ≡ t → (i < j → j < length l → InOrder names (get_or l i 0) (get_or l j 0)) → InOrder names (get_or l i 0) (get_or l (suc j) 0)
      go true e more = subst (λ (n : ℕ). InOrder names (get_or l n 0) (get_or l (suc j) 0)) (sym (eqb-true i j e)) (s.next j k)
      go false e more = let n = eqb-false i j e in in_order_through (more (omega arith) (omega arith)) (s.next j k)

-- ---- a list with each number below n once

module _ (n : ℕ) (order : List ℕ) (same : (x : ℕ) → times x order ≡ times x (numbers n)) where
  at_most_once : (x : ℕ) → times x order ≤ 1
  at_most_once x = go (ltb x n) refl
    where
      go : (t : Bool) → ltb x n ≡ t → times x order ≤ 1
      go true e = let s = same x in let w = numbers_within x n (ltb-true x n e) in omega arith
      go false e = let s = same x in let w = numbers_past x n (ltb-false x n e) in omega arith

  pub all_apart : Apart order
  all_apart = record { once = λ i j h k e. stands_once (get_or order j 0) order i j (at_most_once (get_or order j 0)) h k e refl }

  pub all_below : (k : ℕ) → k < length order → get_or order k 0 < n
  all_below k h = go (ltb (get_or order k 0) n) refl
    where
      go : (t : Bool) → ltb (get_or order k 0) n ≡ t → get_or order k 0 < n
      go true e = ltb-true (get_or order k 0) n e
      go false e =
          let s = same (get_or order k 0) in
          let w = numbers_past (get_or order k 0) n (ltb-false (get_or order k 0) n e) in
          let m = counted (get_or order k 0) order k h refl in
          absurd (omega arith)

  pub each_somewhere : (x : ℕ) → x < n → (k : ℕ) × (k < length order) × (get_or order k 0 ≡ x)
  each_somewhere x h = stands_somewhere x order (let s = same x in let w = numbers_within x n h in omega arith)

-- sorting the numbers below n leaves each of them once
pub all_numbers : (n : ℕ) (numbered order : List ℕ) → numbered ≡ numbers n → ((x : ℕ) → times x order ≡ times x numbered) → (x : ℕ) → times x order ≡ times x (numbers n)
all_numbers n numbered order e same x = same x ∙ ap (times x) e

-- ---- ranks

module _ (names : List Bytes) (distinct : Distinct names) (order ranks : List ℕ) (sorted : Sorted names order) (same : (x : ℕ) → times x order ≡ times x (numbers (length names))) (inverse : Inverse order ranks) (each : length ranks ≡ length names) where
  earlier : (k m : ℕ) → k < m → m < length order → get_or order k 0 < length names → get_or order m 0 < length names → bytes_before (get_or names (get_or order k 0) []) (get_or names (get_or order m 0) []) ≡ true
  earlier k m h l p q = go (bytes_before (get_or names (get_or order k 0) []) (get_or names (get_or order m 0) [])) refl
    where
      go : (t : Bool) → bytes_before (get_or names (get_or order k 0) []) (get_or names (get_or order m 0) []) ≡ t → bytes_before (get_or names (get_or order k 0) []) (get_or names (get_or order m 0) []) ≡ true
      go true e = e
      go false e =
          let equal = neither_same _ _ e (sorted_all names order sorted k m h l).not_before in
          let i = distinct.once (get_or order k 0) (get_or order m 0) (get_or names (get_or order m 0) []) (element_at names (get_or order k 0) [] p ∙ ap some equal) (element_at names (get_or order m 0) [] q) in
          let z = (all_apart (length names) order same).once k m (omega arith) l i in
          absurd (omega arith)

  by_places : (k m : ℕ) → k < length order → m < length order → ltb k m ≡ bytes_before (get_or names (get_or order k 0) []) (get_or names (get_or order m 0) [])
  by_places k m h l = go (ltb k m) refl (eqb k m) refl
    where
      go : (s : Bool) → ltb k m ≡ s → (t : Bool) → eqb k m ≡ t → s ≡ bytes_before (get_or names (get_or order k 0) []) (get_or names (get_or order m 0) [])
      go true e t f = sym (earlier k m (ltb-true k m e) l (all_below (length names) order same k h) (all_below (length names) order same m l))
      go false e true f = sym (ap (λ x. bytes_before (get_or names (get_or order x 0) []) (get_or names (get_or order m 0) [])) (eqb-true k m f) ∙ never_itself (get_or names (get_or order m 0) []))
      go false e false f =
          let n = eqb-false k m f in
          let b = ltb-false k m e in
          sym (sorted_all names order sorted m k (omega arith) h).not_before

  rank_at : (i : ℕ) (p : (k : ℕ) × (k < length order) × (get_or order k 0 ≡ i)) → get_or ranks i 0 ≡ p.0
  rank_at i p = ap (λ x. get_or ranks x 0) (sym p.2) ∙ inverse.at p.0 p.1

  pub ranked : Ranked names ranks
  ranked = record { each = each; order = λ i j h k. go i j (each_somewhere (length names) order same i h) (each_somewhere (length names) order same j k) }
    where
      go : (i j : ℕ) → ((k : ℕ) × (k < length order) × (get_or order k 0 ≡ i)) → ((m : ℕ) × (m < length order) × (get_or order m 0 ≡ j)) → ltb (get_or ranks i 0) (get_or ranks j 0) ≡ bytes_before (get_or names i []) (get_or names j [])
      go i j p q =
          ap₂ ltb (rank_at i p) (rank_at j q) ∙ by_places p.0 q.0 p.1 q.1 ∙ ap₂ (λ x y. bytes_before (get_or names x []) (get_or names y [])) p.2 q.2
