-- The two lent texts, and a part of either.
use Rattle.texts.specs.declared.place.Place.{Place}
use Rattle.texts.specs.Place.{text_start}

pub data Text : Type 0 where
  program output : Text

pub record Part : Type 0 where
  pub text : Text
  pub place : Place

-- of two things that belong to the two texts, the one of this text
abbrev pub of_text : {A : Type 0} → A → A → Text → A
of_text p o program = p
of_text p o output = o

-- a part of a text, by its place there
abbrev pub in_text : Text → Place → Part
in_text x p = record { text = x; place = p }

-- empty, at a text's start
abbrev pub start_of : Text → Part
start_of x = in_text x text_start
