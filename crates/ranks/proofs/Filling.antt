-- What the loop over the numbers has filled.
use mathlib.Core.Path.{◌≡◌, ap}
use mathlib.Core.List.{List, [], ◌∷◌, ◌++◌}
use Prim.Native.Nat.{ℕ, ◌+◌, ◌<◌}
use native.Mathlib.Numerals.{add-one}
use lib.ListN.{length, take, set}
use lib.Seq.{take-suc-set}
use Rattle.ranks.specs.Sorting.{numbers}

module _ (order : List ℕ) (i : ℕ) (same : take i order ≡ numbers i) where
  pub numbered_more : i < length order → take (i + 1) (set order i i) ≡ numbers (i + 1)
  unfolding numbers
  numbered_more h = rw (add-one, take-suc-set order i i h) (ap (λ l. l ++ (i ∷ [])) same)
