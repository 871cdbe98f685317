-- The number of a refusal decides it.
use mathlib.Core.Path.{◌≡◌, refl, sym, ap, ◌∙◌}
use mathlib.Core.Bool.{cond}
use Prim.Native.Nat.{ℕ}
use lib.Dec.{eqb}
use Rattle.texts.specs.declared.refusal.Refusal.{Refusal}
use Rattle.texts.specs.declared.refusal.Refusal.TheVariants.{LongText, Misplaced, LargeNumber, OverSize, Unbound, Repeated, Opposed, OutOfRange, ShortBuffer, Disagreement, Untested}
use Rattle.texts.specs.Refusal.{number_of}

numbered : ℕ → Refusal
numbered n = cond (eqb n 1) LongText (cond (eqb n 2) Misplaced (cond (eqb n 3) LargeNumber (cond (eqb n 4) OverSize (cond (eqb n 5) Unbound (cond (eqb n 6) Repeated (cond (eqb n 7) Opposed (cond (eqb n 8) OutOfRange (cond (eqb n 9) ShortBuffer (cond (eqb n 10) Disagreement Untested)))))))))

back : (r : Refusal) → numbered (number_of r) ≡ r
unfolding numbered
back LongText = refl
back Misplaced = refl
back LargeNumber = refl
back OverSize = refl
back Unbound = refl
back Repeated = refl
back Opposed = refl
back OutOfRange = refl
back ShortBuffer = refl
back Disagreement = refl
back Untested = refl

pub number_decides : (r s : Refusal) → number_of r ≡ number_of s → r ≡ s
number_decides r s e = sym (back r) ∙ ap numbered e ∙ back s
