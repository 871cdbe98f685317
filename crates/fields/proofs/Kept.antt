-- The positions of a set by value are those of the atoms that it has, and decide them.
use mathlib.Core.Path.{◌≡◌, refl, sym, ap, ap₂, ◌∙◌}
use mathlib.Core.Bool.{Bool, true, false}
use mathlib.Core.List.{List, [], ◌∷◌}
use Prim.Native.Nat.{ℕ, zero, suc, ◌+◌, ◌≤◌, ◌<◌}
use native.Mathlib.Decide.{dec_lt}
use native.Mathlib.Omega.{arith}
use native.Mathlib.Nat.{add-zero}
use lib.ListN.{length, get_or}
use Rattle.derived_set.specs.Members.{places, holds, one_if, count, size}
use Rattle.derived_set.specs.declared.Derived.{Derived}
use Rattle.derived_set.proofs.Words.{holds_past}
use Rattle.derived_set.proofs.Sizes.{count_same, count_first}
use Rattle.tables.specs.Rows.{from}
use Rattle.promise.specs.Answer.{positions}

-- ---- a test, as a list

-- the test from place k on
listed : (f : ℕ → Bool) (n k i : ℕ) → i < n → get_or (from f n k) i false ≡ f (k + i)
unfolding from
listed f zero k i l = absurd (omega arith)
listed f (suc n) k zero l = let z : k ≡ k + 0 = omega arith in ap f z
listed f (suc n) k (suc i) l = let z : suc k + i ≡ k + suc i = omega arith in listed f n (suc k) i (omega arith) ∙ ap f z

behind : (f : ℕ → Bool) (n k i : ℕ) → n ≤ i → get_or (from f n k) i false ≡ false
unfolding from
behind f zero k i l = refl
behind f (suc n) k zero l = absurd (omega arith)
behind f (suc n) k (suc i) l = behind f n (suc k) i (omega arith)

pub all_listed : (f : ℕ → Bool) (n : ℕ) → ((a : ℕ) → n ≤ a → f a ≡ false) → (i : ℕ) → f i ≡ get_or (from f n 0) i false
all_listed f n h i =
    elim (dec_lt i n) [
      | yes l ↦ (let z : 0 + i ≡ i = omega arith in sym (listed f n 0 i l ∙ ap f z))
      | no g ↦ h i (omega (arith, g)) ∙ sym (behind f n 0 i (omega (arith, g)))
    ]

-- from place k on the test passes where the list says so, and nowhere behind it
as_listed : (f : ℕ → Bool) (n k : ℕ) (bs : List Bool) → length bs ≤ n → ((i : ℕ) → f (k + i) ≡ get_or bs i false) → (m : ℕ) → positions m (from f n k) ≡ positions m bs
unfolding positions from
as_listed f zero k [] short h m = refl
as_listed f zero k (b ∷ bs) short h m = absurd (omega arith)
as_listed f (suc n) k [] short h m =
    let e : f k ≡ false = rw (add-zero k) at (h 0) in
    rw e (as_listed f n (suc k) [] (omega arith) (λ i. let z : suc k + i ≡ k + suc i = omega arith in rw z (h (suc i))) (suc m))
as_listed f (suc n) k (b ∷ bs) short h m = go b (rw (add-zero k) at (h 0)) (as_listed f n (suc k) bs (omega arith) (λ i. let z : suc k + i ≡ k + suc i = omega arith in rw z (h (suc i))) (suc m))
  where
    go : (c : Bool) → f k ≡ c → positions (suc m) (from f n (suc k)) ≡ positions (suc m) bs → positions m (f k ∷ from f n (suc k)) ≡ positions m (c ∷ bs)
    go true e r = rw (e, r)
    go false e r = rw (e, r)

-- as many positions as places that pass the test
how_many : (f : ℕ → Bool) (n k m : ℕ) → length (positions m (from f n k)) ≡ count (λ i. f (k + i)) n
unfolding positions from one_if count
how_many f zero k m = refl
how_many f (suc n) k m =
    let here : f (k + 0) ≡ f k = ap f (add-zero k) in
    let next : count (λ i. f (k + suc i)) n ≡ count (λ i. f (suc k + i)) n = count_same (λ i. f (k + suc i)) (λ i. f (suc k + i)) n (λ i l. let z : k + suc i ≡ suc k + i = omega arith in ap f z) in
    go (f k) (count_first (λ i. f (k + i)) n ∙ ap₂ ◌+◌ (ap one_if here) (next ∙ sym (how_many f n (suc k) (suc m))))
  where
    go : (b : Bool) → count (λ i. f (k + i)) (suc n) ≡ one_if b + length (positions (suc m) (from f n (suc k))) → length (positions m (b ∷ from f n (suc k))) ≡ count (λ i. f (k + i)) (suc n)
    go true e = omega (arith, e)
    go false e = omega (arith, e)

-- ---- the atoms that a list of positions has

-- positions that are counted from n on are n or more
from_n_on : (n : ℕ) (bs : List Bool) (m : ℕ) (ms : List ℕ) → positions n bs ≡ m ∷ ms → n ≤ m
unfolding positions
from_n_on n [] m ms e = absurd (let z : ◌≡◌ {A = ℕ} 0 1 = cc in omega arith)
from_n_on n (true ∷ bs) m ms e = let z : n ≡ m = cc in omega arith
from_n_on n (false ∷ bs) m ms e = let z = from_n_on (suc n) bs m ms e in omega arith

positions_decide : (n : ℕ) (bs cs : List Bool) → positions n bs ≡ positions n cs → (i : ℕ) → get_or bs i false ≡ get_or cs i false
unfolding positions
positions_decide n [] [] e i = refl
positions_decide n [] (true ∷ cs) e i = absurd (let z : ◌≡◌ {A = ℕ} 0 1 = cc in omega arith)
positions_decide n [] (false ∷ cs) e zero = refl
positions_decide n [] (false ∷ cs) e (suc i) = positions_decide (suc n) [] cs e i
positions_decide n (true ∷ bs) [] e i = absurd (let z : ◌≡◌ {A = ℕ} 0 1 = cc in omega arith)
positions_decide n (false ∷ bs) [] e zero = refl
positions_decide n (false ∷ bs) [] e (suc i) = positions_decide (suc n) bs [] e i
positions_decide n (true ∷ bs) (true ∷ cs) e zero = refl
positions_decide n (true ∷ bs) (true ∷ cs) e (suc i) = let rest : positions (suc n) bs ≡ positions (suc n) cs = cc in positions_decide (suc n) bs cs rest i
positions_decide n (true ∷ bs) (false ∷ cs) e i = absurd (let z = from_n_on (suc n) cs n _ (sym e) in omega arith)
positions_decide n (false ∷ bs) (true ∷ cs) e i = absurd (let z = from_n_on (suc n) bs n _ e in omega arith)
positions_decide n (false ∷ bs) (false ∷ cs) e zero = refl
positions_decide n (false ∷ bs) (false ∷ cs) e (suc i) = positions_decide (suc n) bs cs e i

-- ---- a set by value

held : (s : Derived) (i : ℕ) → holds s i ≡ get_or (from (holds s) places 0) i false
held s = all_listed (holds s) places (holds_past s)

pub kept_are : (s : Derived) (bs : List Bool) → length bs ≤ places → ((i : ℕ) → holds s i ≡ get_or bs i false) → positions 1 (from (holds s) places 0) ≡ positions 1 bs
kept_are s bs short h = as_listed (holds s) places 0 bs short (λ i. let z : 0 + i ≡ i = omega arith in rw z (h i)) 1

pub kept_decided : (s : Derived) (bs : List Bool) → positions 1 (from (holds s) places 0) ≡ positions 1 bs → (i : ℕ) → holds s i ≡ get_or bs i false
kept_decided s bs e i = held s i ∙ positions_decide 1 (from (holds s) places 0) bs e i

pub members_decided : (s t : Derived) → positions 1 (from (holds s) places 0) ≡ positions 1 (from (holds t) places 0) → (i : ℕ) → holds s i ≡ holds t i
members_decided s t e i = kept_decided s (from (holds t) places 0) e i ∙ sym (held t i)

pub kept_sized : (s : Derived) → length (positions 1 (from (holds s) places 0)) ≡ size s
unfolding size
kept_sized s = how_many (holds s) places 0 1 ∙ count_same (λ i. holds s (0 + i)) (holds s) places (λ i l. let z : 0 + i ≡ i = omega arith in ap (holds s) z)
