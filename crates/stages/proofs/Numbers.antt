-- Which numbers of refusal a stage gives.
use mathlib.Core.Path.{◌≡◌}
use mathlib.Core.List.{List}
use Prim.Native.Nat.{ℕ, suc, ◌≤◌}
use Rattle.reading.specs.Reading.{Marked, Placed, Language, wrong, short, over}
use Rattle.stages.specs.Parts.{Part}
use Rattle.stages.specs.Stage.{stop, Stage, stops, goes, ◌⟫◌, Refuse, given, First, first, Reads, fault}

-- its numbers lie from low to high
abbrev pub Among : {A : Type 0} → ℕ → ℕ → Stage A → Type 0
Among low high S = (n : ℕ) (p : Part) → S (stop n p) → (low ≤ n) × (n ≤ high)

module _ (low high : ℕ) where
  pub then_among : {A B : Type 0} (S : Stage A) (T : A → Stage B) → Among low high S → ((a : A) → Among low high (T a)) → Among low high (S ⟫ T)
  then_among S T s t n p (stops _ _ h) = s n p h
  then_among S T s t n p (goes a _ h k) = t a n p k

  pub refuse_among : (m : ℕ) (q : Part) (C : Type 0) → low ≤ m → m ≤ high → Among low high (Refuse m q C)
  refuse_among m q C l h n p (given c) = (l, h)

  pub first_among : (part : ℕ → Part) (Case : ℕ → ℕ → Type 0) → ((i n : ℕ) → Case i n → (low ≤ n) × (n ≤ high)) → Among low high (First part Case)
  first_among part Case k n p (first i _ c f) = k i n c

  pub reads_among : {P T M : Type 0} (L : Language T M) (part : P → Part) (end : P) (ts : List (Placed P T)) → low ≤ 2 → 2 ≤ high → ((v : L.Memory) (x : Marked T M) (n : ℕ) → L.fault v x ≡ suc n → (low ≤ suc n) × (suc n ≤ high)) → Among low high (Reads L part end ts)
  reads_among L part end ts l h k n p (fault _ q (wrong before t after e b w)) = (l, h)
  reads_among L part end ts l h k n p (fault _ q (short b w)) = (l, h)
  reads_among L part end ts l h k n p (fault _ q (over before t after e b m s i f)) = k _ _ i f
