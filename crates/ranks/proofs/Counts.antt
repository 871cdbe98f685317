-- How often a number stands in a list.
use mathlib.Core.Path.{◌≡◌, refl, sym, ap, ◌∙◌}
use mathlib.Core.Bool.{Bool, true, false}
use mathlib.Core.List.{List, [], ◌∷◌, ◌++◌}
use Prim.Native.Nat.{ℕ, zero, suc, ◌+◌, ◌≤◌, ◌<◌}
use native.Mathlib.Omega.{arith}
use borrow.Author.Tests.{eqb-true, eqb-false, eq-eqb, ne_eqb}
use lib.Dec.{eqb}
use lib.ListN.{length, get_or, take, drop, take-append-drop}
use Rattle.ranks.specs.Sorting.{times, numbers}

module _ (x : ℕ) where
  pub times_more : (y : ℕ) (l : List ℕ) → times x l ≤ times x (y ∷ l)
  unfolding times
  times_more y l = omega arith

  times_here : (y : ℕ) (l : List ℕ) → x ≡ y → times x (y ∷ l) ≡ 1 + times x l
  unfolding times
  times_here y l e = rw (eq-eqb x y e)

  times_not_here : (y : ℕ) (l : List ℕ) → (x ≡ y → ⊥) → times x (y ∷ l) ≡ times x l
  unfolding times
  times_not_here y l n = rw (ne_eqb x y n) (omega arith)

  pub times_none : times x [] ≡ 0
  unfolding times
  times_none = refl

  pub times_append : (a b : List ℕ) → times x (a ++ b) ≡ times x a + times x b
  unfolding times
  times_append [] b = omega arith
  times_append (y ∷ a) b = let more = times_append a b in omega arith

  pub times_parts : (n : ℕ) (l : List ℕ) → times x (take n l) + times x (drop n l) ≡ times x l
  times_parts n l = sym (times_append (take n l) (drop n l)) ∙ ap (times x) (take-append-drop n l)

  -- ---- where it stands

  pub stands_somewhere : (l : List ℕ) → 0 < times x l → (k : ℕ) × (k < length l) × (get_or l k 0 ≡ x)
  unfolding times
  stands_somewhere [] h = absurd (omega arith)
  stands_somewhere (y ∷ l) h = go (eqb x y) refl (stands_somewhere l)
    where
      go : (t : Bool) → eqb x y ≡ t → (0 < times x l → (k : ℕ) × (k < length l) × (get_or l k 0 ≡ x)) → (k : ℕ) × (k < suc (length l)) × (get_or (y ∷ l) k 0 ≡ x)
      go true e more = (0, omega arith, sym (eqb-true x y e))
      go false e more = let t = times_not_here y l (eqb-false x y e) in let q = more (omega arith) in (suc q.0, omega arith, q.2)

  pub counted : (l : List ℕ) (k : ℕ) → k < length l → get_or l k 0 ≡ x → 0 < times x l
  counted [] k h e = absurd (omega arith)
  counted (y ∷ l) zero h e = let t = times_here y l (sym e) in omega arith
  counted (y ∷ l) (suc k) h e = let t = counted l k (omega arith) e in let m = times_more y l in omega arith

  pub stands_once : (l : List ℕ) (i j : ℕ) → times x l ≤ 1 → i < length l → j < length l → get_or l i 0 ≡ x → get_or l j 0 ≡ x → i ≡ j
  stands_once [] i j o h k e f = absurd (omega arith)
  stands_once (y ∷ l) zero zero o h k e f = refl
  stands_once (y ∷ l) zero (suc j) o h k e f = let t = times_here y l (sym e) in let m = counted l j (omega arith) f in absurd (omega arith)
  stands_once (y ∷ l) (suc i) zero o h k e f = let t = times_here y l (sym f) in let m = counted l i (omega arith) e in absurd (omega arith)
  stands_once (y ∷ l) (suc i) (suc j) o h k e f = let m = times_more y l in ap suc (stands_once l i j (omega arith) (omega arith) (omega arith) e f)

  -- ---- in the numbers below n

  pub numbers_past : (n : ℕ) → n ≤ x → times x (numbers n) ≡ 0
  unfolding numbers
  numbers_past zero h = times_none
  numbers_past (suc n) h =
      let a = times_append (numbers n) (n ∷ []) in
      let b = numbers_past n (omega arith) in
      let d = times_not_here n [] (λ e. omega arith) in
      let z = times_none in
      omega arith

  pub numbers_within : (n : ℕ) → x < n → times x (numbers n) ≡ 1
  unfolding numbers
  numbers_within zero h = absurd (omega arith)
  numbers_within (suc n) h = go (eqb x n) refl (numbers_within n)
    where
      go : (t : Bool) → eqb x n ≡ t → (x < n → times x (numbers n) ≡ 1) → times x (numbers n ++ (n ∷ [])) ≡ 1
      go true e more =
          let i = eqb-true x n e in
          let a = times_append (numbers n) (n ∷ []) in
          let b = numbers_past n (omega arith) in
          let d = times_here n [] i in
          let z = times_none in
          omega arith
      go false e more =
          let i = eqb-false x n e in
          let a = times_append (numbers n) (n ∷ []) in
          let b = more (omega arith) in
          let d = times_not_here n [] i in
          let z = times_none in
          omega arith
