-- What a comparison of two codes asks of the ranks.
use Rattle.std.specs.Prelude.{List, ℕ, ◌<◌}
use Rattle.meaning.specs.Rules.{Bytes}
use Rattle.ranks.specs.Ranks.{Ranked}

-- where it asks which of two comes first, the ranks have the order of the texts; `=` and `!=` ask nothing
pub record Compared (names : List Bytes) (ranks : List ℕ) (comparison : ℕ) : Type 0 where
  pub ranked : 1 < comparison → Ranked names ranks
