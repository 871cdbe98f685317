-- Laws of `first`: the list of the first n of a family, element by element.
use mathlib.Core.Path.{◌≡◌, refl, ap, ap₂, ◌∙◌}
use mathlib.Core.Logic.{◌⊎◌, inl, inr}
use mathlib.Core.Bool.{Bool, true, false}
use mathlib.Core.Option.{some}
use mathlib.Core.List.{List, [], ◌∷◌, ◌++◌}
use Prim.Native.Nat.{ℕ, zero, suc, ◌<◌, ◌≤◌}
use native.Mathlib.Omega.{arith}
use lib.Dec.{ltb}
use lib.ListN.{length, get_or, get_elem?, length-append, get_or-eq_default}
use borrow.Author.Tests.{ltb-true, ltb-false}
use Rattle.meaning.specs.Rules.{Bytes}
use Rattle.meaning.proofs.Booleans.{none_some, some_inj}
use Rattle.codes.proofs.Names.{at_last, last_at, still_at}
use Rattle.names.specs.Table.{first}

-- what stands at a place stands there whatever the default
pub get_d_at : {A : Type 0} (l : List A) (i : ℕ) (a d : A) → get_elem? l i ≡ some a → get_or l i d ≡ a
get_d_at [] i a d e = absurd (none_some e)
get_d_at (x ∷ l) zero a d e = some_inj e
get_d_at (x ∷ l) (suc i) a d e = get_d_at l i a d e

module _ (name : ℕ → Bytes) where
  pub length_first : (n : ℕ) → length (first name n) ≡ n
  unfolding first
  length_first zero = refl
  length_first (suc n) = let e = length_first n in length-append (first name n) (name n ∷ []) ∙ omega arith

  pub first_at : (n i : ℕ) → i < n → get_elem? (first name n) i ≡ some (name i)
  unfolding first
  first_at zero i h = absurd (let z : ⊥ = omega arith in z)
  first_at (suc n) i h = go (ltb i n) refl (first_at n i)
    where
      go : (t : Bool) → ltb i n ≡ t → (i < n → get_elem? (first name n) i ≡ some (name i)) → get_elem? (first name n ++ (name n ∷ [])) i ≡ some (name i)
      go true e ih = still_at (first name n) (name n ∷ []) i (ih (ltb-true i n e))
      go false e ih =
          let q : i ≡ n = omega (arith, ltb-false i n e) in
          let l : length (first name n) ≡ n = length_first n in
          let last : get_elem? (first name n ++ (name n ∷ [])) n ≡ some (name n) = rw l at (last_at (first name n) (name n)) in
          rw q last

  pub first_inside : (n i : ℕ) (b : Bytes) → get_elem? (first name n) i ≡ some b → (i < n) × (name i ≡ b)
  unfolding first
  first_inside zero i b e = absurd (none_some e)
  first_inside (suc n) i b e = go (at_last (first name n) (name n) i b e) (first_inside n i b)
    where
      go : (get_elem? (first name n) i ≡ some b) ⊎ ((i ≡ length (first name n)) × (name n ≡ b)) → (get_elem? (first name n) i ≡ some b → (i < n) × (name i ≡ b)) → (i < suc n) × (name i ≡ b)
      go (inl h) ih = let k = ih h in (omega arith, k.1)
      go (inr h) ih = let q : i ≡ n = h.0 ∙ length_first n in (omega arith, ap name q ∙ h.1)

pub first_same : (name other : ℕ → Bytes) (n : ℕ) → ((i : ℕ) → i < n → name i ≡ other i) → first name n ≡ first other n
unfolding first
first_same name other zero h = refl
first_same name other (suc n) h = ap₂ (λ (l : List Bytes) (b : Bytes). l ++ (b ∷ [])) (first_same name other n (λ i k. h i (omega arith))) (h n (omega arith))

-- past the last stands the default
pub get_d_first : (name : ℕ → Bytes) (n i : ℕ) → i < n → get_or (first name n) i [] ≡ name i
get_d_first name n i h = get_d_at (first name n) i (name i) [] (first_at name n i h)

pub get_d_past : (name : ℕ → Bytes) (n i : ℕ) → n ≤ i → get_or (first name n) i [] ≡ []
get_d_past name n i h = get_or-eq_default (first name n) [] {n = i} (let l = length_first name n in omega arith)
