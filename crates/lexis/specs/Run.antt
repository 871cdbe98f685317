-- Blanks, and the bytes that go on a run.
use Rattle.std.specs.Prelude.{ℕ, Bool, false, ◌&&◌, ◌||◌, eqb}
use Rattle.lexis.specs.declared.run.Run.{Run}
use Rattle.lexis.specs.declared.run.Run.TheVariants.{LineBlanks, Line, Word, Digits}
use Rattle.lexis.specs.Class.{class_of, is_word_class, is_digit}
use Rattle.texts.specs.Prefix.{in_line}

-- space, tab and, in a program, newline: on a facts line a newline is no blank
unfoldable pub is_blank : Bool → ℕ → Bool
is_blank program b = eqb b 32 || (eqb b 9 || (eqb b 10 && program))

abbrev pub goes_on : Run → ℕ → Bool
goes_on LineBlanks b = is_blank false b
goes_on Line b = in_line b
goes_on Word b = is_word_class (class_of b)
goes_on Digits b = is_digit (class_of b)
