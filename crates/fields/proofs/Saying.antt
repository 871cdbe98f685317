-- Each answer by value says the paper's: the values of its kind, and zero elsewhere.
use mathlib.Core.Path.{◌≡◌, refl, ap}
use mathlib.Core.Bool.{Bool, false}
use mathlib.Core.List.{List}
use Prim.Native.Nat.{ℕ, ◌^◌, ◌≤◌, ◌<◌}
use lib.ListN.{length, get_or, take}
use Rattle.texts.specs.declared.place.Place.{Place}
use Rattle.texts.specs.declared.refusal.Refused.{Refused as Fault}
use Rattle.texts.specs.Refusal.{number_of}
use Rattle.stages.specs.Parts.{in_text}
use Rattle.grammar.specs.Sizes.{most_literals}
use Rattle.derived_set.specs.Members.{places, holds, WellKept}
use Rattle.derived_set.specs.declared.Derived.{Derived}
use Rattle.promise.specs.Answer.{positions, fields}
use Rattle.promise.specs.Answer as paper
use Rattle.fields.specs.declared.answer.Text.{Text}
use Rattle.fields.specs.declared.answer.Answer.TheVariants.{Accepted, Unsatisfied, Smaller, ClaimedNone, ClaimedUnknown}
use Rattle.fields.specs.Values.{refused, of_fault}
use Rattle.fields.specs.Parts.{text_of}
use Rattle.fields.specs.Answers.{Says}
use Rattle.fields.proofs.Kept.{kept_are}

pub refused_says : (number : ℕ) (text : Text) (place : Place) → Says (refused number text place) (paper.refused number (in_text (text_of text) place))
refused_says number text place = record { says = refl; zero = refl; nothing_else = tt }

pub fault_says : (text : Text) (fault : Fault) → Says (of_fault text fault) (paper.refused (number_of fault.refusal) (in_text (text_of text) fault.place))
fault_says text fault = refused_says (number_of fault.refusal) text fault.place

pub accepted_says : (atoms rounds : ℕ) → Says (Accepted atoms rounds) (paper.accepted atoms rounds)
accepted_says atoms rounds = record { says = refl; zero = refl; nothing_else = tt }

pub unsatisfied_says : (rule count : ℕ) (ps : List ℕ) → count ≤ most_literals → length ps ≡ most_literals → ((i : ℕ) → count ≤ i → get_or ps i 0 ≡ 0) → Says (Unsatisfied rule count ps) (paper.unsatisfied rule (take count ps))
unsatisfied_says rule count ps few room behind = record { says = refl; zero = refl; nothing_else = record { few = few; room = room; behind = behind } }

pub smaller_says : (s : Derived) (bs : List Bool) → length bs ≤ places → ((i : ℕ) → holds s i ≡ get_or bs i false) → length s.words ≡ 16 → ((k : ℕ) → get_or s.words k 0 < 2 ^ 64) → WellKept s → Says (Smaller s) (paper.smaller (positions 1 bs))
smaller_says s bs short h words bits kept = let e = kept_are s bs short h in record { says = ap paper.smaller e; zero = ap (λ (ps : List ℕ). fields (paper.smaller ps)) e; nothing_else = record { words = words; bits = bits; well_kept = kept } }

pub none_says : Says ClaimedNone paper.claimed_none
none_says = record { says = refl; zero = refl; nothing_else = tt }

pub unknown_says : Says ClaimedUnknown paper.claimed_unknown
unknown_says = record { says = refl; zero = refl; nothing_else = tt }
