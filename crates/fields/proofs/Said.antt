-- What is said decides the form of the answer by value.
use mathlib.Core.Path.{◌≡◌, refl, subst}
use mathlib.Core.List.{List}
use Prim.Native.Nat.{ℕ}
use lib.ListN.{take}
use Rattle.derived_set.specs.declared.Derived.{Derived}
use Rattle.promise.specs.Answer as paper
use Rattle.fields.specs.declared.answer.Part.{Part}
use Rattle.fields.specs.declared.answer.Answer.{Answer}
use Rattle.fields.specs.declared.answer.Answer.TheVariants.{Refused, Accepted, Unsatisfied, Smaller, ClaimedNone, ClaimedUnknown}
use Rattle.fields.specs.Parts.{part_of}
use Rattle.fields.specs.Answers.{kept_positions, said}

-- the form of an answer by value that says x
abbrev pub FormOf : paper.Answer → Answer → Type 0
FormOf (paper.refused n p) a = (v : Part) × (a ≡ Refused n v) × (part_of v ≡ p)
FormOf (paper.accepted n k) a = a ≡ Accepted n k
FormOf (paper.unsatisfied r ps) a = (count : ℕ) × (qs : List ℕ) × (a ≡ Unsatisfied r count qs) × (take count qs ≡ ps)
FormOf (paper.smaller ps) a = (s : Derived) × (a ≡ Smaller s) × (kept_positions s ≡ ps)
FormOf paper.claimed_none a = a ≡ ClaimedNone
FormOf paper.claimed_unknown a = a ≡ ClaimedUnknown

own_form : (a : Answer) → FormOf (said a) a
own_form (Refused n v) = (v, refl, refl)
own_form (Accepted n k) = refl
own_form (Unsatisfied r count qs) = (count, qs, refl, refl)
own_form (Smaller s) = (s, refl, refl)
own_form ClaimedNone = refl
own_form ClaimedUnknown = refl

pub form_of : (a : Answer) (x : paper.Answer) → said a ≡ x → FormOf x a
form_of a x e = subst (λ (y : paper.Answer). FormOf y a) e (own_form a)
