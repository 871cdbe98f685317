-- Laws of things at fixed strides: `from`, members by place, and parts.
use mathlib.Core.Path.{◌≡◌, refl, sym, ap, ap₂, ◌∙◌}
use mathlib.Core.Bool.{Bool, true}
use mathlib.Core.Logic.{inl, inr}
use mathlib.Core.Option.{some}
use mathlib.Core.List.{List, [], ◌∷◌, ◌++◌, map}
use Prim.Native.Nat.{ℕ, zero, suc, ◌+◌, ◌-◌, ◌≤◌, ◌<◌}
use native.Mathlib.Omega.{arith}
use native.Mathlib.Numerals.{add-one}
use lib.ListN.{length, get_or, get_elem?, take, drop, length-drop}
use lib.Seq.{length-take-le}
use Rattle.meaning.specs.Sets.{In, every}
use Rattle.meaning.proofs.Booleans.{and_both}
use Rattle.codes.proofs.Pairwise.{within}
use Rattle.tables.specs.Rows.{from}

pub from_length : {A : Type 0} (f : ℕ → A) (n k : ℕ) → length (from f n k) ≡ n
unfolding from
from_length f zero k = refl
from_length f (suc n) k = ap suc (from_length f n (suc k))

pub from_at : {A : Type 0} (f : ℕ → A) (n k i : ℕ) → i < n → get_elem? (from f n k) i ≡ some (f (k + i))
unfolding from
from_at f zero k i h = absurd (omega arith)
from_at {A} f (suc n) k zero h = let e : k + 0 ≡ k = omega arith in ap (λ (j : ℕ). some (f j)) (sym e)
from_at {A} f (suc n) k (suc i) h = let e : suc k + i ≡ k + suc i = omega arith in from_at f n (suc k) i (omega arith) ∙ ap (λ (j : ℕ). some (f j)) e

pub from_below : {A : Type 0} (f : ℕ → A) (n k i : ℕ) {a : A} → get_elem? (from f n k) i ≡ some a → i < n
from_below f n k i e = rw (from_length f n k) at (within (from f n k) i e)

-- where something is left, the first of it stands at k
pub from_more : {A : Type 0} (f : ℕ → A) (n k : ℕ) → k < n → from f (n - k) k ≡ f k ∷ from f (n - suc k) (suc k)
unfolding from
from_more f n k h = let e : n - k ≡ suc (n - suc k) = omega arith in rw e

pub from_end : {A : Type 0} (f : ℕ → A) (n k : ℕ) → n ≤ k → from f (n - k) k ≡ []
unfolding from
from_end f n k h = let e : n - k ≡ 0 = omega arith in rw e

pub from_last : {A : Type 0} (f : ℕ → A) (n k : ℕ) → from f (suc n) k ≡ from f n k ++ (f (k + n) ∷ [])
unfolding from
from_last f zero k = let e : k + 0 ≡ k = omega arith in rw e
from_last {A} f (suc n) k = let e : suc k + n ≡ k + suc n = omega arith in ap (λ (l : List A). f k ∷ l) (from_last f n (suc k) ∙ ap (λ (j : ℕ). from f n (suc k) ++ (f j ∷ [])) e)

pub from_same : {A : Type 0} (f g : ℕ → A) (n k : ℕ) → ((l : ℕ) → k ≤ l → l < k + n → f l ≡ g l) → from f n k ≡ from g n k
unfolding from
from_same f g zero k h = refl
from_same f g (suc n) k h = ap₂ (λ x xs. x ∷ xs) (h k (omega arith) (omega arith)) (from_same f g n (suc k) (λ l p q. h l (omega arith) (omega arith)))

-- one more, where those before it are the same
pub from_on : {A : Type 0} (f g : ℕ → A) (n : ℕ) → ((k : ℕ) → k < n → f k ≡ g k) → from f (n + 1) 0 ≡ from g n 0 ++ (f n ∷ [])
from_on {A} f g n h =
    let z : 0 + n ≡ n = omega arith in
    ap (λ (m : ℕ). from f m 0) (add-one n)
    ∙ from_last f n 0
    ∙ ap₂ (λ (xs : List A) (k : ℕ). xs ++ (f k ∷ [])) (from_same f g n 0 (λ k p q. h k (omega arith))) z

pub from_map : {A B : Type 0} (g : A → B) (f : ℕ → A) (n k : ℕ) → map g (from f n k) ≡ from (λ l. g (f l)) n k
unfolding from
from_map g f zero k = refl
from_map g f (suc n) k = ap (λ xs. g (f k) ∷ xs) (from_map g f n (suc k))

-- what stands at a place is a member
pub at_member : (l : List ℕ) (i : ℕ) → i < length l → In (get_or l i 0) l
at_member [] i h = absurd (omega arith)
at_member (x ∷ xs) zero h = inl refl
at_member (x ∷ xs) (suc i) h = inr (at_member xs i (omega arith))

-- ---- parts of lists

-- a part that lies in a list
pub part_length : (n k : ℕ) (l : List ℕ) → k + n ≤ length l → length (take n (drop k l)) ≡ n
part_length n k l h = length-take-le n (drop k l) (omega (arith, length-drop k l))

-- a part of a slice from k to k + n
pub part_is : (k n : ℕ) (l : List ℕ) → take (k + n - k) (drop k l) ≡ take n (drop k l)
part_is k n l = let e : k + n - k ≡ n = omega arith in rw e

pub every_from : {A : Type 0} (f : A → Bool) (g : ℕ → A) (n k : ℕ) → ((i : ℕ) → k ≤ i → i < k + n → f (g i) ≡ true) → every f (from g n k) ≡ true
unfolding every from
every_from f g zero k h = refl
every_from f g (suc n) k h = and_both (f (g k)) (every f (from g n (suc k))) (h k (omega arith) (omega arith)) (every_from f g n (suc k) (λ i a b. h i (omega arith) (omega arith)))
