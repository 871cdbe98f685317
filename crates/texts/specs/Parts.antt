-- Parts of a text: the bytes of a span and of a place.
use Rattle.std.specs.Prelude.{ℕ, List, take, drop}
use Rattle.texts.specs.declared.place.Place.{Place}
use Rattle.texts.specs.declared.place.Span.{Span}

-- the bytes of a span
abbrev pub bytes_in : List ℕ → Span → List ℕ
bytes_in text span = take span.len (drop span.start text)

-- the bytes of a place
abbrev pub part : List ℕ → Place → List ℕ
part text place = take place.len (drop place.start text)
