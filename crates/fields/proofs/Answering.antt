-- What a stage gives is the answer, where the answer by value says it.
use mathlib.Core.Path.{◌≡◌, refl}
use mathlib.Core.List.{List}
use Prim.Native.Nat.{ℕ}
use Rattle.texts.specs.declared.place.Place.{Place}
use Rattle.texts.specs.declared.refusal.Refused.{Refused as Fault}
use Rattle.texts.specs.Refusal.{number_of}
use Rattle.stages.specs.Parts.{in_text}
use Rattle.stages.specs.Stage.{Outcome, on, stop, Stage}
use Rattle.promise.specs.Answer as paper
use Rattle.fields.specs.declared.answer.Text.{Text}
use Rattle.fields.specs.declared.answer.Answer.{Answer}
use Rattle.fields.specs.Values.{refused, of_fault}
use Rattle.fields.specs.Parts.{text_of}
use Rattle.fields.specs.Answers.{Says}
use Rattle.fields.specs.Checked.{Answers}
use Rattle.fields.proofs.Saying.{refused_says}

module _ (S : Stage paper.Result) (places : List ℕ) where
  -- a stage that refuses, and an answer that says so
  pub refuses : (n : ℕ) (text : Text) (place : Place) → S (stop n (in_text (text_of text) place)) → (a : Answer) → a ≡ refused n text place → Answers S places a places
  unfolding paper.result
  refuses n text place h a e = record { answer = paper.refused n (in_text (text_of text) place); says = rw e (refused_says n text place); gives = record { outcome = stop n (in_text (text_of text) place); checked = h; so = refl } }

  -- .. by a fault
  pub refuses_fault : (text : Text) (fault : Fault) → S (stop (number_of fault.refusal) (in_text (text_of text) fault.place)) → (a : Answer) → a ≡ of_fault text fault → Answers S places a places
  refuses_fault text fault = refuses (number_of fault.refusal) text fault.place

  -- a stage that hands on an answer, and an answer that says it
  pub hands_on : (x : paper.Answer) (left : List ℕ) → S (on (record { answer = x; places = left })) → (a : Answer) → Says a x → Answers S places a left
  unfolding paper.result
  hands_on x left h a s = record { answer = x; says = s; gives = record { outcome = on (record { answer = x; places = left }); checked = h; so = refl } }

  -- what the stages behind answer is the answer
  pub answers_as : (T : Stage paper.Result) → ((o : Outcome paper.Result) → S o → T o) → (a : Answer) (left : List ℕ) → Answers S places a left → Answers T places a left
  answers_as T f a left k = record { answer = k.answer; says = k.says; gives = record { outcome = k.gives.outcome; checked = f _ k.gives.checked; so = k.gives.so } }
