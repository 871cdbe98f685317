-- Merging: what holds when so many numbers of either side have been taken, and how one more is.
use mathlib.Core.Path.{◌≡◌, refl, sym, ap, ap₂, subst, ◌∙◌}
use mathlib.Core.Bool.{Bool, true, false}
use mathlib.Core.List.{List, [], ◌∷◌}
use Prim.Native.Nat.{ℕ, suc, ◌+◌, ◌≤◌, ◌<◌}
use native.Mathlib.Omega.{arith}
use borrow.Author.Tests.{eqb-true, eqb-false}
use lib.Dec.{eqb}
use lib.ListN.{length, get_or, take, set}
use lib.Seq.{take-suc, take-suc-set, take_all, get_or-set_same, get_or-set_other}
use Rattle.meaning.specs.Rules.{Bytes}
use Rattle.ranks.specs.Sorting.{InOrder, Sorted, times, Next, Merges}
use Rattle.ranks.proofs.Counts.{times_none, times_append}

-- k numbers are merged: i of the left and j of the right, in order, and the last is in order with what is left of either
pub record Merging (names : List Bytes) (k : ℕ) (left : List ℕ) (i : ℕ) (right : List ℕ) (j : ℕ) (merged : List ℕ) : Type 0 where
  pub taken : k ≡ i + j
  pub within_left : i ≤ length left
  pub within_right : j ≤ length right
  pub next : (p : ℕ) → suc p < k → InOrder names (get_or merged p 0) (get_or merged (suc p) 0)
  pub last_left : (p : ℕ) → suc p ≡ k → i < length left → InOrder names (get_or merged p 0) (get_or left i 0)
  pub last_right : (p : ℕ) → suc p ≡ k → j < length right → InOrder names (get_or merged p 0) (get_or right j 0)
  pub same : (x : ℕ) → times x (take k merged) ≡ times x (take i left) + times x (take j right)

pub merging_none : (names : List Bytes) (left right merged : List ℕ) → Merging names 0 left 0 right 0 merged
merging_none names left right merged =
    record {
      taken = refl;
      within_left = omega arith;
      within_right = omega arith;
      next = λ p h. absurd (omega arith);
      last_left = λ p e h. absurd (omega arith);
      last_right = λ p e h. absurd (omega arith);
      same = λ x. let z = times_none x in omega arith;
    }

pub turned : {names : List Bytes} {k i j : ℕ} {left right merged : List ℕ} → Merging names k left i right j merged → Merging names k right j left i merged
turned m =
    record {
      taken = let t = m.taken in omega arith;
      within_left = m.within_right;
      within_right = m.within_left;
      next = m.next;
      last_left = m.last_right;
      last_right = m.last_left;
      same = λ x. let s = m.same x in omega arith;
    }

module _ {names : List Bytes} {k i j : ℕ} {left right merged : List ℕ} (m : Merging names k left i right j merged) (room : k < length merged) (sorted : Sorted names left) (n : Next names left i right j) where
  here : get_or (set merged k (get_or left i 0)) k 0 ≡ get_or left i 0
  here = get_or-set_same merged k (get_or left i 0) 0 room

  before : (p : ℕ) → p < k → get_or (set merged k (get_or left i 0)) p 0 ≡ get_or merged p 0
  before p h = get_or-set_other merged k p (get_or left i 0) 0 (λ e. omega arith)

  still_next : (p : ℕ) → suc p < suc k → InOrder names (get_or (set merged k (get_or left i 0)) p 0) (get_or (set merged k (get_or left i 0)) (suc p) 0)
  still_next p h = go (eqb (suc p) k) refl
    where
      go : (t : Bool) → eqb (suc p) k ≡ t → InOrder names (get_or (set merged k (get_or left i 0)) p 0) (get_or (set merged k (get_or left i 0)) (suc p) 0)
      go true e =
          let f = eqb-true (suc p) k e in
          subst (λ (q : ℕ). InOrder names (get_or (set merged k (get_or left i 0)) p 0) (get_or (set merged k (get_or left i 0)) q 0)) (sym f)
          (rw (here, before p (omega arith)) (m.last_left p f n.there))
      go false e =
          let f = eqb-false (suc p) k e in
          rw (before p (omega arith), before (suc p) (omega arith)) (m.next p (omega arith))

  last_here : (p : ℕ) → suc p ≡ suc k → (v : ℕ) → InOrder names (get_or left i 0) v → InOrder names (get_or (set merged k (get_or left i 0)) p 0) v
  last_here p e v o =
      let f : p ≡ k = omega arith in
      subst (λ (q : ℕ). InOrder names (get_or (set merged k (get_or left i 0)) q 0) v) (sym f) (rw here o)

  same_more : (x : ℕ) → times x (take (suc k) (set merged k (get_or left i 0))) ≡ times x (take (suc i) left) + times x (take j right)
  same_more x =
      let a = ap (times x) (take-suc-set merged k (get_or left i 0) room) ∙ times_append x (take k merged) (get_or left i 0 ∷ []) in
      let b = ap (times x) (take-suc left i 0 n.there) ∙ times_append x (take i left) (get_or left i 0 ∷ []) in
      let s = m.same x in
      omega arith

  taken_suc : Merging names (suc k) left (suc i) right j (set merged k (get_or left i 0))
  taken_suc =
      record {
        taken = let t = m.taken in omega arith;
        within_left = n.there;
        within_right = m.within_right;
        next = still_next;
        last_left = λ p e h. last_here p e (get_or left (suc i) 0) (sorted.next i h);
        last_right = λ p e h. last_here p e (get_or right j 0) (n.in_order h);
        same = same_more;
      }

  pub taken_more : (k' i' : ℕ) → k' ≡ suc k → i' ≡ suc i → Merging names k' left i' right j (set merged k (get_or left i 0))
  taken_more k' i' e f = subst (λ (q : ℕ). Merging names q left i' right j (set merged k (get_or left i 0))) (sym e) (subst (λ (q : ℕ). Merging names (suc k) left q right j (set merged k (get_or left i 0))) (sym f) taken_suc)

pub all_taken : {names : List Bytes} {k i j : ℕ} {left right merged : List ℕ} → Merging names k left i right j merged → length merged ≤ k → length merged ≡ length left + length right → Merges names left right merged
all_taken {names} {k} {i} {j} {left} {right} {merged} m h l =
    let t = m.taken in
    let a = m.within_left in
    let b = m.within_right in
    let whole = take_all k merged h in
    let whole_left = take_all i left (omega arith) in
    let whole_right = take_all j right (omega arith) in
    record {
      sorted = record { next = λ p q. m.next p (omega arith) };
      same = λ x. sym (ap (times x) whole) ∙ m.same x ∙ ap₂ ◌+◌ (ap (times x) whole_left) (ap (times x) whole_right);
    }
