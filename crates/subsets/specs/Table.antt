-- Which subsets of at most twenty facts are ruled out. A subset is named by its number J: bit a of J is one where fact a, counted from 0, is kept.
-- A table has a bit for each subset.
use Rattle.std.specs.Prelude.{◌≡◌, Bool, true, false, not, cond, ◌&&◌, ◌||◌, List, ℕ, zero, suc, ◌*◌, ◌/◌, ◌%◌, ◌<◌, ◌≤◌, length, get_or}
use Rattle.derived_set.specs.Members.{bit}

abbrev pub most_facts : ℕ
most_facts = 20

-- a bit for each of 2^20 subsets
abbrev pub most_words : ℕ
most_words = 16_384

unfoldable pub ruled_out : List ℕ → ℕ → Bool
ruled_out table J = bit (get_or table (J / 64) 0) (J % 64)

-- ---- what a matching rules out

-- the test passes at every number below n
unfoldable pub all_below : (ℕ → Bool) → ℕ → Bool
all_below f zero = true
all_below f (suc n) = all_below f n && f n

-- fact a, where it is kept, is none of the heads, and where it is not kept, it is not in the body
unfoldable pub suits : ℕ → ℕ → ℕ → ℕ → Bool
suits body heads J a = cond (bit J a) (not (bit heads a)) (not (bit body a))

-- J has all of the body and none of the heads; body and heads are masks, with a bit for each fact
unfoldable pub refutes : ℕ → ℕ → ℕ → Bool
refutes body heads J = all_below (suits body heads J) most_facts

-- what was ruled out stays so, and what the matching refutes is ruled out beside it
pub record RulesOut (body heads : ℕ) (before after : List ℕ) : Type 0 where
  pub long : length after ≡ length before
  pub out : (J : ℕ) → J < 64 * length before → ruled_out after J ≡ (ruled_out before J || refutes body heads J)

-- ---- what is left

-- every subset before r is ruled out
abbrev pub AllOut : List ℕ → ℕ → Type 0
AllOut table r = (J : ℕ) → J < r → ruled_out table J ≡ true

-- r is the first subset that is not ruled out, or `most` where there is none before it
pub record FirstLeft (table : List ℕ) (most r : ℕ) : Type 0 where
  pub within : r ≤ most
  pub before : AllOut table r
  pub here : r < most → ruled_out table r ≡ false
