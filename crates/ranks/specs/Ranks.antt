-- Ranks of names, strings among them: which of two comes first is seen by two numbers.
use Rattle.std.specs.Prelude.{◌≡◌, List, [], ℕ, ◌<◌, ltb, length, get_or}
use Rattle.meaning.specs.Rules.{Bytes}
use Rattle.meaning.specs.Values.{bytes_before}

-- the name with the lesser rank comes first, by bytes with a prefix first
pub record Ranked (names : List Bytes) (ranks : List ℕ) : Type 0 where
  pub each : length ranks ≡ length names
  pub order : (i j : ℕ) → i < length names → j < length names → ltb (get_or ranks i 0) (get_or ranks j 0) ≡ bytes_before (get_or names i []) (get_or names j [])
