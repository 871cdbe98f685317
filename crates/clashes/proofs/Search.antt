-- The search along a row's chain: no fact before j is alike.
use mathlib.Core.Path.{◌≡◌, refl, sym, ◌∙◌}
use mathlib.Core.Bool.{Bool, true, false, true≢false}
use mathlib.Core.Logic.{◌⊎◌, inl, inr}
use mathlib.Core.List.{List}
use Prim.Native.Nat.{ℕ, suc, ◌≤◌, ◌<◌}
use native.Mathlib.Omega.{arith}
use native.Mathlib.Decide.{dec_lt}
use Rattle.meaning.specs.Rules.{Bytes}
use Rattle.meaning.proofs.Booleans.{same_or_not}
use Rattle.tables.specs.Rows.{fact_predicate, fact_arguments}
use Rattle.tables.specs.WellFormed.{FactTable}
use Rattle.chains.specs.Links.{row_chain, InChain, Next}
use Rattle.clashes.specs.Clashes.{alike, Earlier}
use Rattle.clashes.proofs.Rows.{alike_chained}

-- no fact before j is alike
abbrev pub Passed : List Bytes → List ℕ → Bool → ℕ → ℕ → Type 0
Passed names facts opposed k j = (i : ℕ) → i < j → alike names facts opposed i k ≡ false

module _ (names : List Bytes) (facts : List ℕ) (count : ℕ) (opposed : Bool) (k c : ℕ) (table : FactTable facts count) (below : k < count) (own : c ≡ row_chain (fact_predicate facts k) (fact_arguments facts k)) where
  other : (i : ℕ) → i < count → (InChain facts c i → ⊥) → alike names facts opposed i k ≡ false
  other i h n = go (alike names facts opposed i k) refl
    where
      go : (b : Bool) → alike names facts opposed i k ≡ b → b ≡ false
      go false e = refl
      go true e = absurd (n (rw own (alike_chained facts count opposed i k table h below names e)))

  pub passed_first : (j : ℕ) → Next facts count c 0 j → Passed names facts opposed k j
  passed_first j q i h = other i (omega (arith, q.within)) (q.skipped i (omega arith) h)

  pub passed_more : (j g : ℕ) → Next facts count c (suc j) g → alike names facts opposed j k ≡ false → Passed names facts opposed k j → Passed names facts opposed k g
  passed_more j g q e so i h = go (same_or_not i j) (dec_lt i j)
    where
      go : (i ≡ j) ⊎ (i ≡ j → ⊥) → Dec (i < j) → alike names facts opposed i k ≡ false
      go (inl z) d = rw z e
      go (inr z) (yes d) = so i d
      go (inr z) (no d) = other i (omega (arith, q.within)) (q.skipped i (omega arith) h)

pub none_earlier : (names : List Bytes) (facts : List ℕ) (opposed : Bool) (k j : ℕ) → k ≤ j → Passed names facts opposed k j → Earlier names facts opposed k → ⊥
none_earlier names facts opposed k j h so e = true≢false (sym e.2 ∙ so e.0 (omega (arith, e.1)))
