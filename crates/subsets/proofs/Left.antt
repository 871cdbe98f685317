-- The subsets before one, ruled out word by word and one by one.
use mathlib.Core.Path.{◌≡◌}
use mathlib.Core.Bool.{true, false}
use mathlib.Core.List.{List}
use Prim.Native.Nat.{ℕ, ◌+◌, ◌-◌, ◌*◌, ◌/◌, ◌%◌, ◌^◌, ◌<◌}
use native.Mathlib.Decide.{dec_lt}
use native.Mathlib.Omega.{arith}
use borrow.Author.Count.{below_more}
use borrow.Author.Tests.{eq-eqb, ne_eqb}
use lib.ListN.{get_or, take}
use Rattle.std.proofs.lemmas.List.{get_or-take}
use Rattle.derived_set.specs.Members.{bit}
use Rattle.subsets.specs.Table.{ruled_out, AllOut}
use Rattle.subsets.proofs.Patterns.{full_bits}

-- word w, the first words of the table being cut off
pub word_more : (table : List ℕ) (words w : ℕ) → AllOut table (w * 64) → w < words → get_or (take words table) w 0 ≡ 2 ^ 64 - 1 → AllOut table ((w + 1) * 64)
unfolding ruled_out
word_more table words w out h full J l = elim (dec_lt J (w * 64)) [ yes b ↦ out J b | no b ↦ inside (omega arith) (omega arith) ]
  where
    inside : J / 64 ≡ w → J % 64 < 64 → bit (get_or table (J / 64) 0) (J % 64) ≡ true
    inside e k = rw (e, ← get_or-take words table w 0 h, full) (full_bits (J % 64) k)

module _ (table : List ℕ) (at : ℕ) where
  pub one_more : AllOut table at → (get_or table (at / 64) 0 / 2 ^ (at % 64) % 2 ≡ 0 → ⊥) → AllOut table (at + 1)
  unfolding ruled_out bit
  one_more out one = below_more _ at out (eq-eqb (get_or table (at / 64) 0 / 2 ^ (at % 64) % 2) 1 (omega arith))

  pub left_here : get_or table (at / 64) 0 / 2 ^ (at % 64) % 2 ≡ 0 → ruled_out table at ≡ false
  unfolding ruled_out bit
  left_here zero = ne_eqb (get_or table (at / 64) 0 / 2 ^ (at % 64) % 2) 1 (λ one. omega arith)
