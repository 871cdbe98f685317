-- Numbers of names, sorted by the names' bytes.
use Rattle.std.specs.Prelude.{◌≡◌, Bool, true, false, cond, List, [], ◌∷◌, ◌++◌, ℕ, zero, suc, ◌+◌, ◌<◌, eqb, length, get_or}
use Rattle.meaning.specs.Rules.{Bytes}
use Rattle.meaning.specs.Values.{bytes_before}

-- ---- order

-- b's name does not come before a's
pub record InOrder (names : List Bytes) (a b : ℕ) : Type 0 where
  pub not_before : bytes_before (get_or names b []) (get_or names a []) ≡ false

pub record Sorted (names : List Bytes) (l : List ℕ) : Type 0 where
  pub next : (p : ℕ) → suc p < length l → InOrder names (get_or l p 0) (get_or l (suc p) 0)

-- ---- numbers

-- how often x stands in a list
unfoldable pub times : ℕ → List ℕ → ℕ
times x [] = 0
times x (y ∷ l) = cond (eqb x y) 1 0 + times x l

-- those below n
unfoldable pub numbers : ℕ → List ℕ
numbers zero = []
numbers (suc n) = numbers n ++ (n ∷ [])

-- no number stands twice
pub record Apart (l : List ℕ) : Type 0 where
  pub once : (i j : ℕ) → i < length l → j < length l → get_or l i 0 ≡ get_or l j 0 → i ≡ j

-- ---- what the functions do

-- the number at i comes next: there is one, and the other list has none at j or one whose name does not come before
pub record Next (names : List Bytes) (l : List ℕ) (i : ℕ) (other : List ℕ) (j : ℕ) : Type 0 where
  pub there : i < length l
  pub in_order : j < length other → InOrder names (get_or l i 0) (get_or other j 0)

pub record Chosen (names : List Bytes) (left : List ℕ) (i : ℕ) (right : List ℕ) (j : ℕ) (is_left : Bool) : Type 0 where
  pub from_left : is_left ≡ true → Next names left i right j
  pub from_right : is_left ≡ false → Next names right j left i

pub record Merges (names : List Bytes) (left right merged : List ℕ) : Type 0 where
  pub sorted : Sorted names merged
  pub same : (x : ℕ) → times x merged ≡ times x left + times x right

pub record Sorts (names : List Bytes) (before after : List ℕ) : Type 0 where
  pub sorted : Sorted names after
  pub same : (x : ℕ) → times x after ≡ times x before

-- at each number of the order stands its place there
pub record Inverse (order ranks : List ℕ) : Type 0 where
  pub at : (k : ℕ) → k < length order → get_or ranks (get_or order k 0) 0 ≡ k
