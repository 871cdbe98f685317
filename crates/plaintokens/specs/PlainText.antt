-- The plain form of a text's tokens in bytes, and what is written of each. A proof's tool and no promise.
use Rattle.std.specs.Prelude.{Bool, false, cond, List, [], ◌∷◌, ℕ, eqb}
use Rattle.lexis.specs.declared.kind.Kind.TheVariants.{Dot, AlsoUnequal}
use Rattle.lexis.specs.Kind.{kind_number}
use Rattle.texts.specs.Parts.{part}
use Rattle.reading.specs.Reading.{unplaced}
use Rattle.meaning.specs.Rules.{Bytes}
use Rattle.grammar.specs.Tokens.{Token}
use Rattle.syntax.specs.declared.token.TokenRead.{TokenRead}
use Rattle.syntax.specs.Text.{placed_from}
use Rattle.plaintokens.specs.PlainTokens.{plain_behind, written_behind}

-- a token as it stands in the text, and `!=` for `<>`
abbrev pub spelled : Bytes → TokenRead → Bytes
spelled text t = cond (eqb t.kind (kind_number AlsoUnequal)) (33 ∷ 61 ∷ []) (part text t.place)

-- nothing of a token that is left out
abbrev pub unless : Bool → Bytes → Bytes
unless out bytes = cond out [] bytes

-- a program's tokens from a place on
abbrev pub plain_tokens_from : Bytes → ℕ → List Token
plain_tokens_from text at = unplaced (placed_from false text at)

-- what is still to be written of these tokens: by the kind of the token before them, and that of the last token written
abbrev pub still : (before last : ℕ) → List Token → Bytes
still before last ts = written_behind last (plain_behind before ts)

-- of a text that is read as a program, the bytes of the program's plain form (`plain_text_of`)
abbrev pub plain_text : Bytes → Bytes
plain_text text = still (kind_number Dot) (kind_number Dot) (plain_tokens_from text 0)
