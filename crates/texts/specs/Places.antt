-- Spans of bytes; and places kept in a table, four numbers each: where a place starts, how many bytes it has, its line and its column.
use Rattle.std.specs.Prelude.{List, [], ◌∷◌, ◌++◌, ℕ, zero, suc, ◌+◌, ◌*◌, ◌<◌, get_or, set}
use Rattle.texts.specs.declared.place.Place.{Place}
use Rattle.texts.specs.declared.place.Span.{Span}

abbrev pub span_from : ℕ → ℕ → Span
span_from start len = record { start = start; len = len }

-- every number of a table is below this
abbrev pub number_limit : ℕ
number_limit = 4_294_967_296

-- the numbers of a place
abbrev pub place_stride : ℕ
place_stride = 4

abbrev pub place_in : List ℕ → ℕ → Place
place_in table i =
    record {
      start = get_or table (i * place_stride) 0;
      len = get_or table (i * place_stride + 1) 0;
      line = get_or table (i * place_stride + 2) 0;
      column = get_or table (i * place_stride + 3) 0;
    }

-- its numbers fit a table
pub record Storable (p : Place) : Type 0 where
  pub start : p.start < number_limit
  pub len : p.len < number_limit
  pub line : p.line < number_limit
  pub column : p.column < number_limit

-- the first n places of a table
unfoldable pub places_in : List ℕ → ℕ → List Place
places_in table zero = []
places_in table (suc n) = places_in table n ++ (place_in table n ∷ [])

-- the table with another place at a number
abbrev pub with_place : List ℕ → ℕ → Place → List ℕ
with_place table i p =
    let start = set table (i * place_stride) p.start in
    let len = set start (i * place_stride + 1) p.len in
    let line = set len (i * place_stride + 2) p.line in
    set line (i * place_stride + 3) p.column
