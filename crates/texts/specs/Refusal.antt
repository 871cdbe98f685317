-- The numbers of the refusals, by the paper's table.
use Rattle.std.specs.Prelude.{◌≡◌, ℕ}
use Rattle.texts.specs.declared.refusal.Refusal.{Refusal}
use Rattle.texts.specs.declared.refusal.Refusal.TheVariants.{LongText, Misplaced, LargeNumber, OverSize, Unbound, Repeated, Opposed, OutOfRange, ShortBuffer, Disagreement, Untested}

abbrev pub number_of : Refusal → ℕ
number_of LongText = 1
number_of Misplaced = 2
number_of LargeNumber = 3
number_of OverSize = 4
number_of Unbound = 5
number_of Repeated = 6
number_of Opposed = 7
number_of OutOfRange = 8
number_of ShortBuffer = 9
number_of Disagreement = 10
number_of Untested = 12

abbrev pub Numbered : Refusal → ℕ → Type 0
Numbered refusal number = number ≡ number_of refusal
