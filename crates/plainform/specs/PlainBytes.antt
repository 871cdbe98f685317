-- What a text is read as, and the bytes of a program's plain form.
use Rattle.std.specs.Prelude.{false}
use Rattle.reading.specs.Reading.{tokens, tree, Reading}
use Rattle.meaning.specs.Rules.{Bytes}
use Rattle.grammar.specs.Trees.{Program}
use Rattle.grammar.specs.Spelling.{spell}
use Rattle.grammar.specs.Sizes.{programs}
use Rattle.grammar.specs.PlainForm.{plain_form}
use Rattle.grammar.specs.Writing.{written}
use Rattle.syntax.specs.Text.{placed_from, end_of}

-- the text's tokens are the program's, and none passes a size
abbrev pub ReadAs : Bytes → Program false → Type 0
ReadAs text c = Reading programs (end_of text) (placed_from false text 0) (tree c)

-- the tokens of its plain form, set side by side with a blank only where two would else read as others
abbrev pub plain_bytes : Program false → Bytes
plain_bytes c = written (tokens (spell (plain_form c)))
