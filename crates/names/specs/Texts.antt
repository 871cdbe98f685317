-- A span of the two lent texts: the output counts on behind the program.
use Rattle.std.specs.Prelude.{◌-◌, cond, ltb, length}
use Rattle.texts.specs.declared.place.Span.{Span}
use Rattle.texts.specs.Parts.{bytes_in}
use Rattle.texts.specs.Places.{span_from}
use Rattle.meaning.specs.Rules.{Bytes}

-- the bytes of a span: in the program where it starts there, else in the output
unfoldable pub bytes_at : Bytes → Bytes → Span → Bytes
bytes_at program output span =
    cond (ltb span.start (length program))
    (bytes_in program span)
    (bytes_in output (span_from (span.start - length program) span.len))
