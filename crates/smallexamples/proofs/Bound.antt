-- Every variable of each rule of a program is bound: a test that computes.
use mathlib.Core.Path.{◌≡◌}
use mathlib.Core.Bool.{Bool, true, false, ◌&&◌}
use mathlib.Core.Logic.{◌⊎◌, inl, inr}
use Prim.Native.Nat.{ℕ, zero, suc, ◌<◌}
use native.Mathlib.Omega.{arith}
use lib.ListN.{length}
use Rattle.meaning.specs.Safety.{bound}
use Rattle.meaning.proofs.Booleans.{and_left, and_right, same_or_not}
use Rattle.grammar.specs.Trees.{empty, ◌then◌, Program}
use Rattle.grammar.specs.Abstraction.{rule_for}
use Rattle.program.proofs.Numbered.{rule_variables}
use Rattle.program.proofs.Safe.{AllBound}

-- each number below n passes the test
unfoldable pub every_below : (ℕ → Bool) → ℕ → Bool
every_below f zero = true
every_below f (suc n) = f n && every_below f n

passes_below : (f : ℕ → Bool) (n y : ℕ) → every_below f n ≡ true → y < n → f y ≡ true
unfolding every_below
passes_below f zero y h l = absurd (omega (arith, l))
passes_below f (suc n) y h l = go (same_or_not y n) (passes_below f n y (and_right (f n) (every_below f n) h))
  where
    go : (y ≡ n) ⊎ (y ≡ n → ⊥) → (y < n → f y ≡ true) → f y ≡ true
    go (inl e) below = rw e (and_left (f n) (every_below f n) h)
    go (inr d) below = below (omega (arith, l, d))

unfoldable pub all_bound : Program false → Bool
all_bound empty = true
all_bound (p then r) = all_bound p && every_below (bound (rule_for r)) (length (rule_variables r))

pub are_bound : (c : Program false) → all_bound c ≡ true → AllBound c
unfolding all_bound
are_bound empty h = tt
are_bound (p then r) h = (are_bound p (and_left (all_bound p) _ h), λ y l. passes_below (bound (rule_for r)) (length (rule_variables r)) y (and_right (all_bound p) _ h) l)
