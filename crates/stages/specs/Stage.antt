-- A call passes through stages; the first stage that refuses gives the answer.
use Rattle.std.specs.Prelude.{◌≡◌, ◌⊎◌, List, ℕ, ◌<◌, ◌≤◌}
use Rattle.reading.specs.Reading.{Placed, Language, Reading, tree, refused}
use Rattle.stages.specs.Parts.{Part}

-- what a stage hands on, or a number of refusal and its part
pub data Outcome (A : Type 0) : Type 0 where
  on : A → Outcome A
  stop : ℕ → Part → Outcome A

-- a stage says which outcome it may have
abbrev pub Stage : Type 0 → Type 1
Stage A = Outcome A → Type 0

-- one stage, and with what it hands on the next
pub data Then {A B : Type 0} (S : Stage A) (T : A → Stage B) : Outcome B → Type 0 where
  stops : (n : ℕ) (p : Part) → S (stop n p) → Then S T (stop n p)
  goes : (a : A) (o : Outcome B) → S (on a) → T a o → Then S T o

infixr 20 ◌⟫◌
abbrev pub ◌⟫◌ : {A B : Type 0} → Stage A → (A → Stage B) → Stage B
◌⟫◌ S T = Then S T

-- just this outcome
abbrev pub Is : {A : Type 0} → Outcome A → Stage A
Is x = λ o. o ≡ x

-- n at p, exactly where C holds
pub data Refuse (n : ℕ) (p : Part) (C : Type 0) : Outcome (Unit {0}) → Type 0 where
  given : C → Refuse n p C (stop n p)
  passed : ¬ C → Refuse n p C (on tt)

-- the first of numbered things that has a case, and there the lowest number: that number at the part where the thing stands
pub data First (part : ℕ → Part) (Case : ℕ → ℕ → Type 0) : Outcome (Unit {0}) → Type 0 where
  first : (i n : ℕ) → Case i n → ((j m : ℕ) → Case j m → (i < j) ⊎ ((i ≡ j) × (n ≤ m))) → First part Case (stop n (part i))
  without : ((i n : ℕ) → ¬ Case i n) → First part Case (on tt)

-- tokens read by a language and its sizes: a tree, or 2, 3 or 4 at the part of a token or of the end
pub data Reads {P T M : Type 0} (L : Language T M) (part : P → Part) (end : P) (ts : List (Placed P T)) : Outcome L.Tree → Type 0 where
  read : (c : L.Tree) → Reading L end ts (tree c) → Reads L part end ts (on c)
  fault : (n : ℕ) (p : P) → Reading L end ts (refused n p) → Reads L part end ts (stop n (part p))
