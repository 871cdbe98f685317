-- What the writer of a text that is read needs and promises.
use Rattle.std.specs.Prelude.{false, ℕ, ◌≤◌, length}
use Rattle.texts.specs.Sizes.{most_text}
use Rattle.meaning.specs.Rules.{Bytes}
use Rattle.grammar.specs.Trees.{Program}
use Rattle.plainform.specs.PlainBytes.{ReadAs, plain_bytes}
use Rattle.plaintokens.specs.Put.{Put}

-- the text is within its size, and is read as a program
pub record Readable (text : Bytes) : Type 0 where
  pub size : length text ≤ most_text
  pub program : Program false
  pub read : ReadAs text program

-- the bytes of its plain form stand at the buffer's start, as far as it reaches
abbrev pub PutsPlain : (text buffer : Bytes) → ℕ → Bytes → Type 0
PutsPlain text buffer after left = (c : Program false) → ReadAs text c → Put buffer 0 (plain_bytes c) after left
