-- The examples of values compute as they are worked out by hand, and no operation has a result where one of the two is no number.
-- The statements stand at the end.
use mathlib.Core.Path.{◌≡◌, refl}
use mathlib.Core.Bool.{false, true≢false}
use mathlib.Core.Option.{Option, none, some}
use mathlib.Core.List.{map}
use lib.IntN.{ℤ}
use Rattle.meaning.specs.Domain.{Operation}
use Rattle.meaning.specs.Values.{Value, number, name, string, same_number, same_bytes, same_value, bytes_before, value_before, compare_by, compare_values, number?, operate_numbers, operate_numbers?, operate_values, is_number}
use Rattle.meaning.specs.Ascii.{last_bytes, ascii}
use Rattle.meaning.specs.ValueExamples.{Compared, comparisons, Operated, results}

-- to unfold this is to unfold all that values compute with
opened : Unit {0}
unfolding same_number same_bytes same_value bytes_before value_before compare_by compare_values operate_numbers last_bytes ascii
opened = tt

none_right : (o : Operation) (n : Option ℤ) → operate_numbers? o n none ≡ none
unfolding operate_numbers?
none_right o none = refl
none_right o (some n) = refl

-- ---- the statements

pub compared : map (λ (e : Compared). compare_values e.comparison e.left e.right) comparisons ≡ map (λ (e : Compared). e.holds) comparisons
unfolding opened
compared = refl

pub operated : map (λ (e : Operated). operate_numbers e.operation e.left e.right) results ≡ map (λ (e : Operated). e.result) results
unfolding opened
operated = refl

-- a name is no operand, and neither is a string
pub no_result : (o : Operation) (v w : Value) → is_number v ≡ false → (operate_values o v w ≡ none) × (operate_values o w v ≡ none)
unfolding operate_values operate_numbers? number? is_number
no_result o (number m) w h = absurd (true≢false h)
no_result o (name a) w h = (refl, none_right o (number? w))
no_result o (string a) w h = (refl, none_right o (number? w))
