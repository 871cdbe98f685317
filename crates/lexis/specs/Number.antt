-- The value of a number token.
use Rattle.std.specs.Prelude.{ℕ, ◌+◌, ◌*◌, ◌-◌, cond, List, [], ◌∷◌, leb}

-- numbers go to 1,000,000,000; one that is over its size counts as one more than that
unfoldable pub capped : ℕ → ℕ
capped n = cond (leb n 1_000_000_000) n 1_000_000_001

-- what digits say, after digits that say n
unfoldable pub decimal_after : ℕ → List ℕ → ℕ
decimal_after n [] = n
decimal_after n (digit ∷ rest) = decimal_after (n * 10 + (digit - 48)) rest

-- what digits say
abbrev pub decimal : List ℕ → ℕ
decimal digits = decimal_after 0 digits
