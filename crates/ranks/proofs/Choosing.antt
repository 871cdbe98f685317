-- Which of two numbers comes next.
use mathlib.Core.Path.{◌≡◌, sym, ◌∙◌}
use mathlib.Core.Bool.{Bool, true, false, not, true≢false, false≢true}
use mathlib.Core.List.{List, []}
use Prim.Native.Nat.{ℕ, ◌+◌, ◌≤◌, ◌<◌}
use native.Mathlib.Omega.{arith}
use borrow.Author.Tests.{not-true, not-false}
use lib.ListN.{length, get_or}
use Rattle.meaning.specs.Rules.{Bytes}
use Rattle.meaning.specs.Values.{bytes_before}
use Rattle.ranks.specs.Sorting.{Chosen}
use Rattle.ranks.proofs.Earlier.{one_way}

module _ (names : List Bytes) (left : List ℕ) (i : ℕ) (right : List ℕ) (j : ℕ) where
  pub none_left : length left ≤ i → i ≤ length left → i + j < length left + length right → Chosen names left i right j false
  none_left h k l = record { from_left = λ e. absurd (false≢true e); from_right = λ e. record { there = omega arith; in_order = λ m. absurd (omega arith) } }

  pub none_right : i < length left → length right ≤ j → Chosen names left i right j true
  none_right h k = record { from_left = λ e. record { there = h; in_order = λ m. absurd (omega arith) }; from_right = λ e. absurd (true≢false e) }

  pub both_there : (r : Bool) → i < length left → j < length right → r ≡ not (bytes_before (get_or names (get_or right j 0) []) (get_or names (get_or left i 0) [])) → Chosen names left i right j r
  both_there r h k e =
      record {
        from_left = λ f. record { there = h; in_order = λ m. record { not_before = not-true _ (sym e ∙ f) } };
        from_right = λ f. record { there = k; in_order = λ m. record { not_before = one_way _ _ (not-false _ (sym e ∙ f)) } };
      }
