-- The answers by value that refuse.
use Rattle.std.specs.Prelude.{ℕ}
use Rattle.texts.specs.declared.place.Place.{Place}
use Rattle.texts.specs.declared.refusal.Refused.{Refused as Fault}
use Rattle.texts.specs.Refusal.{number_of}
use Rattle.fields.specs.declared.answer.Text.{Text}
use Rattle.fields.specs.declared.answer.Answer.{Answer}
use Rattle.fields.specs.declared.answer.Answer.TheVariants.{Refused}

abbrev pub refused : ℕ → Text → Place → Answer
refused number text place = Refused number (record { text = text; place = place })

-- a fault of this text
abbrev pub of_fault : Text → Fault → Answer
of_fault text fault = refused (number_of fault.refusal) text fault.place
