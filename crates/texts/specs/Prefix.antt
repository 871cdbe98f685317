-- Bytes that pass a test: how many do, from the first on, and whether all do; and the test for the bytes of a line.
use Rattle.std.specs.Prelude.{ℕ, suc, Bool, true, cond, not, ◌&&◌, List, [], ◌∷◌, eqb}

-- how many elements, from the first on, pass a test
unfoldable pub prefix_len : (ℕ → Bool) → List ℕ → ℕ
prefix_len p [] = 0
prefix_len p (b ∷ rest) = cond (p b) (suc (prefix_len p rest)) 0

-- each of the bytes passes a test
unfoldable pub every : (ℕ → Bool) → List ℕ → Bool
every p [] = true
every p (b ∷ rest) = p b && every p rest

-- every byte but a newline
unfoldable pub in_line : ℕ → Bool
in_line b = not (eqb b 10)
