-- The set of the facts whose bits a number has, fact after fact.
use mathlib.Core.Path.{◌≡◌, refl, sym, ap, ◌∙◌}
use mathlib.Core.Bool.{Bool, true, false, ◌&&◌}
use Prim.Native.Nat.{ℕ, ◌+◌, ◌/◌, ◌%◌, ◌^◌, ◌<◌}
use native.Mathlib.Omega.{arith}
use native.Mathlib.Decide.{dec_lt, ℕ_discrete}
use borrow.Author.Tests.{eq-eqb, ne_eqb, lt-ltb, le-ltb}
use lib.Dec.{ltb}
use Rattle.derived_set.specs.declared.Derived.{Derived}
use Rattle.derived_set.specs.Members.{places, bit, holds, no_atoms, Marked}
use Rattle.derived_set.proofs.Words.{none_held}
use Rattle.derived_set.proofs.Keeping.{none_kept, kept_marked}
use Rattle.subset_test.specs.Smaller.{KeptFacts}

-- the code's test of a bit
pub bit_one : (x j : ℕ) → x / 2 ^ j % 2 ≡ 1 → bit x j ≡ true
unfolding bit
bit_one x j e = eq-eqb (x / 2 ^ j % 2) 1 e

pub bit_not_one : (x j : ℕ) → (x / 2 ^ j % 2 ≡ 1 → ⊥) → bit x j ≡ false
unfolding bit
bit_not_one x j n = ne_eqb (x / 2 ^ j % 2) 1 n

-- whether j is below one more
below_more : (j a : ℕ) → (j ≡ a → ⊥) → ltb j (a + 1) ≡ ltb j a
below_more j a n = go (dec_lt j a)
  where
    go : Dec (j < a) → ltb j (a + 1) ≡ ltb j a
    go (yes h) = lt-ltb j (a + 1) (omega arith) ∙ sym (lt-ltb j a h)
    go (no h) = le-ltb j (a + 1) (omega arith) ∙ sym (le-ltb j a (omega arith))

module _ (number : ℕ) where
  pub no_facts : KeptFacts number 0 no_atoms
  no_facts = record { well_kept = none_kept; has = λ a. none_held a ∙ sym (rw (le-ltb a 0 (omega arith)) refl) }

  module _ (a : ℕ) (s : Derived) (k : KeptFacts number a s) where
    pub fact_marked : bit number a ≡ true → a < places → (t : Derived) → Marked s a t → KeptFacts number (a + 1) t
    fact_marked b h t m = record { well_kept = kept_marked m k.well_kept; has = λ j. go j (ℕ_discrete j a) }
      where
        go : (j : ℕ) → Dec (j ≡ a) → holds t j ≡ (ltb j (a + 1) && bit number j)
        go j (yes e) = rw (e, lt-ltb a (a + 1) (omega arith), b) (m.here h)
        go j (no n) = m.other j n ∙ k.has j ∙ ap (λ (x : Bool). x && bit number j) (sym (below_more j a n))

    pub fact_passed : bit number a ≡ false → KeptFacts number (a + 1) s
    fact_passed b = record { well_kept = k.well_kept; has = λ j. go j (ℕ_discrete j a) }
      where
        go : (j : ℕ) → Dec (j ≡ a) → holds s j ≡ (ltb j (a + 1) && bit number j)
        go j (yes e) = rw e (k.has a ∙ rw (b, le-ltb a a (omega arith), lt-ltb a (a + 1) (omega arith)) refl)
        go j (no n) = k.has j ∙ ap (λ (x : Bool). x && bit number j) (sym (below_more j a n))
