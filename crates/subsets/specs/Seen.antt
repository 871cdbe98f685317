-- The cache of pairs, each of a body and heads, that are ruled out in a table already. A pair stands in a slot of two numbers. Where a body and heads
-- have a fact in common they refute nothing, so a slot with such a pair is as good as empty.
use Rattle.std.specs.Prelude.{◌≡◌, true, List, ℕ, ◌+◌, ◌*◌, ◌<◌, length, get_or}
use Rattle.subsets.specs.Table.{ruled_out, refutes}

abbrev pub slots : ℕ
slots = 2_048

-- two numbers for each slot
abbrev pub seen_size : ℕ
seen_size = 4_096

-- every subset that a pair of the cache refutes is ruled out in the table
pub record Seen (seen table : List ℕ) : Type 0 where
  pub room : length seen ≡ seen_size
  pub out : (k : ℕ) → k < slots → (J : ℕ) → J < 64 * length table → refutes (get_or seen (k * 2) 0) (get_or seen (k * 2 + 1) 0) J ≡ true → ruled_out table J ≡ true

-- no pair of the cache refutes anything, so that it is right of every table
abbrev pub NoneSeen : List ℕ → Type 0
NoneSeen seen = (table : List ℕ) → Seen seen table
