-- A stage whose parts have one outcome at most has one outcome at most.
use mathlib.Core.Path.{◌≡◌, refl, sym as inv, ap, ◌∙◌}
use mathlib.Core.Bool.{Bool, true, false, false≢true}
use mathlib.Core.Logic.{◌⊎◌, inl, inr}
use mathlib.Core.List.{List}
use Prim.Native.Nat.{ℕ, ◌<◌, ◌≤◌}
use native.Mathlib.Nat.{le_antisymm}
use native.Mathlib.Omega.{arith}
use Rattle.reading.specs.Reading.{Placed, Language, Answer, tree, refused, Reading}
use Rattle.stages.specs.Parts.{Part}
use Rattle.stages.specs.Stage.{Outcome, on, stop, Stage, stops, goes, ◌⟫◌, Is, Refuse, given, passed, First, first, without, Reads, read, fault}

-- at most one
abbrev pub One : {A : Type 0} → (A → Type 0) → Type 0
One {A} P = (a b : A) → P a → P b → a ≡ b

stopped : {A : Type 0} → Outcome A → Bool
stopped (on a) = false
stopped (stop n p) = true

pub on_stop : {A : Type 0} {a : A} {n : ℕ} {p : Part} → on a ≡ stop n p → ⊥
unfolding stopped
on_stop e = false≢true (ap stopped e)

pub on_inj : {A : Type 0} {a b : A} → on a ≡ on b → a ≡ b
on_inj {A} {a} {b} e = cc

carry : {A B : Type 0} {n m : ℕ} {p q : Part} → ◌≡◌ {A = Outcome A} (stop n p) (stop m q) → ◌≡◌ {A = Outcome B} (stop n p) (stop m q)
carry {A} {B} {n} {m} {p} {q} e = cc

pub then_one : {A B : Type 0} (S : Stage A) (T : A → Stage B) → One S → ((a : A) → One (T a)) → One (S ⟫ T)
then_one S T s t x y (stops n p h) (stops m q k) = carry (s _ _ h k)
then_one S T s t x y (stops n p h) (goes b z k l) = absurd (on_stop (s _ _ k h))
then_one S T s t x y (goes a w h l) (stops m q k) = absurd (on_stop (s _ _ h k))
then_one S T s t x y (goes a w h l) (goes b z k m) = let e : a ≡ b = on_inj (s _ _ h k) in t a x y l (rw e m)

-- where the first stage hands on a, the rest follows from a
pub then_on : {A B : Type 0} (S : Stage A) (T : A → Stage B) → One S → (a : A) → S (on a) → (o : Outcome B) → (S ⟫ T) o → T a o
then_on S T s a h o (stops n p k) = absurd (on_stop (s _ _ h k))
then_on S T s a h o (goes b x k l) = let e : a ≡ b = on_inj (s _ _ h k) in rw e l

pub is_one : {A : Type 0} (x : Outcome A) → One (Is x)
is_one x a b h k = h ∙ inv k

pub refuse_one : (n : ℕ) (p : Part) (C : Type 0) → One (Refuse n p C)
refuse_one n p C x y (given c) (given d) = refl
refuse_one n p C x y (given c) (passed d) = absurd (d c)
refuse_one n p C x y (passed c) (given d) = absurd (c d)
refuse_one n p C x y (passed c) (passed d) = refl

pub first_one : (part : ℕ → Part) (Case : ℕ → ℕ → Type 0) → One (First part Case)
first_one part Case x y (first i n c f) (first j m d g) = go (f j m d) (g i n c)
  where
    go : (i < j) ⊎ ((i ≡ j) × (n ≤ m)) → (j < i) ⊎ ((j ≡ i) × (m ≤ n)) → ◌≡◌ {A = Outcome (Unit {0})} (stop n (part i)) (stop m (part j))
    go (inl a) (inl b) = absurd (omega arith)
    go (inl a) (inr b) = absurd (omega arith)
    go (inr a) (inl b) = absurd (omega arith)
    go (inr a) (inr b) = let e : n ≡ m = le_antisymm a.1 b.1 in let z : i ≡ j = a.0 in cc
first_one part Case x y (first i n c f) (without d) = absurd (d i n c)
first_one part Case x y (without c) (first j m d g) = absurd (c j m d)
first_one part Case x y (without c) (without d) = refl

is_tree : {P A : Type 0} → Answer P A → Bool
is_tree (tree c) = true
is_tree (refused n p) = false

tree_refused : {P A : Type 0} {c : A} {n : ℕ} {p : P} → ◌≡◌ {A = Answer P A} (refused n p) (tree c) → ⊥
unfolding is_tree
tree_refused e = false≢true (ap is_tree e)

pub reads_one : {P T M : Type 0} (L : Language T M) (part : P → Part) (end : P) (ts : List (Placed P T)) → One (Reading L end ts) → One (Reads L part end ts)
reads_one L part end ts one x y (read c h) (read d k) = let e : tree c ≡ tree d = one _ _ h k in let z : c ≡ d = cc in ap on z
reads_one L part end ts one x y (read c h) (fault n p k) = absurd (tree_refused (one _ _ k h))
reads_one L part end ts one x y (fault n p h) (read d k) = absurd (tree_refused (one _ _ h k))
reads_one {P} L part end ts one x y (fault n p h) (fault m q k) = same (one _ _ h k)
  where
    same : ◌≡◌ {A = Answer P L.Tree} (refused n p) (refused m q) → ◌≡◌ {A = Outcome L.Tree} (stop n (part p)) (stop m (part q))
    same e = let a : n ≡ m = cc in let b : p ≡ q = cc in cc
