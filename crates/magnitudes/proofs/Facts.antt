-- The largest number of the facts, argument by argument and fact by fact.
use mathlib.Core.Path.{◌≡◌}
use mathlib.Core.Logic.{inl, inr}
use mathlib.Core.List.{List, [], ◌∷◌}
use Prim.Native.Nat.{ℕ, ◌+◌, ◌-◌, ◌*◌, ◌≤◌, ◌<◌, max}
use native.Mathlib.Decide.{ℕ_discrete}
use native.Mathlib.Omega.{arith}
use lib.ListN.{take, drop}
use Rattle.std.specs.List.{fold}
use Rattle.meaning.specs.Sets.{In}
use Rattle.tables.specs.Rows.{arity, fact_predicate, fact_arguments}
use Rattle.tables.proofs.Strides.{part_is}
use Rattle.magnitudes.specs.Sizes.{size, greatest, Largest}
use Rattle.magnitudes.proofs.Far.{size_small}

-- ---- codes one after the other

pub larger_codes : (codes : List ℕ) (most : ℕ) → most ≤ greatest → (r : ℕ) → r ≡ fold (λ (m c : ℕ). max m (size c)) most codes → (r ≤ greatest) × (most ≤ r) × ((c : ℕ) → In c codes → size c ≤ r)
larger_codes [] most h r e = (omega arith, omega arith, λ c i. absurd i)
larger_codes (x ∷ xs) most h r e =
    let q = larger_codes xs (max most (size x)) (omega (arith, size_small x)) r e in
    (q.0, omega (arith, q.1), λ c i. go c i q.1 q.2)
  where
    go : (c : ℕ) → In c (x ∷ xs) → max most (size x) ≤ r → ((d : ℕ) → In d xs → size d ≤ r) → size c ≤ r
    go c (inl z) a b = rw z (omega arith)
    go c (inr i) a b = b c i

-- ---- facts one after the other

module _ (facts : List ℕ) (count : ℕ) where
  pub record Most (k r : ℕ) : Type 0 where
    pub modest : r ≤ greatest
    pub largest : Largest facts k r

  pub most_none : Most 0 0
  most_none = record { modest = omega arith; largest = λ k h. absurd (omega arith) }

  pub most_one : (k r s : ℕ) → k < count → Most k r → (s ≤ greatest) × (r ≤ s) × ((c : ℕ) → In c (take (k * 9 + 1 + arity (fact_predicate facts k) - (k * 9 + 1)) (drop (k * 9 + 1) facts)) → size c ≤ s) → Most (k + 1) s
  most_one k r s h m q = record { modest = q.0; largest = go }
    where
      here : (c : ℕ) → In c (fact_arguments facts k) → size c ≤ s
      here = rw (part_is (k * 9 + 1) (arity (fact_predicate facts k)) facts) at q.2

      go : Largest facts (k + 1) s
      go j p c i = elim (ℕ_discrete j k) [ yes z ↦ here c (rw z at i) | no z ↦ omega (arith, q.1, m.largest j (omega arith) c i) ]

  pub most_all : (k r : ℕ) → count ≤ k → Most k r → (r ≤ greatest) × Largest facts count r
  most_all k r h m = (m.modest, λ j p. m.largest j (omega arith))
