-- How a matching is put into the table: the first six facts choose bits of a word, and the others choose the words.
use Rattle.std.specs.Prelude.{◌≡◌, Bool, cond, List, ℕ, ◌<◌, length, get_or}
use Rattle.std.specs.Int.Bits.{bit_or}
use Rattle.derived_set.specs.Members.{bit}
use Rattle.subsets.specs.Table.{all_below, suits}

-- the facts that choose a bit of a word, and those that choose a word
abbrev pub bit_facts : ℕ
bit_facts = 6

abbrev pub word_facts : ℕ
word_facts = 14

-- the word has a one at each number that has fact a
abbrev pub Column : ℕ → ℕ → Type 0
Column a word = (j : ℕ) → j < 64 → bit word j ≡ bit j a

-- the word has a one at each number that suits the matching in its first n facts
abbrev pub Leaves : ℕ → ℕ → ℕ → ℕ → Type 0
Leaves n body heads word = (j : ℕ) → j < 64 → bit word j ≡ all_below (suits body heads j) n

-- the numbers of the words of which a matching refutes a subset
unfoldable pub chosen : ℕ → ℕ → ℕ → Bool
chosen body heads k = all_below (suits body heads k) word_facts

-- the pattern is put into each chosen word
pub record WordsMarked (pattern body heads : ℕ) (before after : List ℕ) : Type 0 where
  pub long : length after ≡ length before
  pub word : (k : ℕ) → k < length before → get_or after k 0 ≡ cond (chosen body heads k) (bit_or (get_or before k 0) pattern) (get_or before k 0)
