-- The plain form of a program's tokens, from left to right, and its bytes. A proof's tool and no promise: of a tree's tokens it makes the tokens of
-- the plain form (`plain_tokens_of`).
use Rattle.std.specs.Prelude.{Bool, true, false, List, [], ◌∷◌, ◌++◌, ℕ, get_or}
use Rattle.lexis.specs.declared.kind.Kind.TheVariants.{Dot, End}
use Rattle.lexis.specs.Kind.{kind_number}
use Rattle.meaning.specs.Rules.{Bytes}
use Rattle.grammar.specs.Tokens.{Token, name, variable, string, number, comparison, symbol, stray}
use Rattle.grammar.specs.PlainForm.{plain_sign}
use Rattle.grammar.specs.Moves.{token_number}
use Rattle.grammar.specs.Writing.{token_bytes}
use Rattle.plaintokens.specs.Neighbours.{left_out, blank_between}

-- `!=` for `<>`
unfoldable pub plain_token : Token → Token
plain_token (name b) = name b
plain_token (variable b) = variable b
plain_token (string b) = string b
plain_token (number n) = number n
plain_token (comparison r) = comparison (plain_sign r)
plain_token (symbol s) = symbol s
plain_token (stray b) = stray b

-- the kind of the first of these tokens, the end's where there is none, and its first byte
unfoldable pub first_kind : List Token → ℕ
first_kind [] = kind_number End
first_kind (t ∷ ts) = token_number t

unfoldable pub first_byte : List Token → ℕ
first_byte [] = 0
first_byte (t ∷ ts) = get_or (token_bytes t) 0 0

-- ---- the tokens that stay, behind a token of the kind

unfoldable pub plain_unless : Bool → Token → List Token
plain_unless true t = []
plain_unless false t = plain_token t ∷ []

unfoldable pub plain_behind : ℕ → List Token → List Token
plain_behind kind [] = []
plain_behind kind (t ∷ ts) = plain_unless (left_out kind (token_number t) (first_kind ts) (first_byte ts)) t ++ plain_behind (token_number t) ts

-- before the first token a rule has ended
abbrev pub plain_tokens : List Token → List Token
plain_tokens ts = plain_behind (kind_number Dot) ts

-- ---- their bytes, behind a token of the kind

unfoldable pub written_behind : ℕ → List Token → Bytes
written_behind kind [] = []
written_behind kind (t ∷ ts) = blank_between kind (token_number t) ++ (token_bytes t ++ written_behind (token_number t) ts)
