-- The tokens of a text as the grammar's, each with its place.
use Rattle.std.specs.Prelude.{Bool, not, List, map, ℕ, ◌+◌, length, get_or}
use Rattle.lexis.specs.declared.kind.Kind.{Kind}
use Rattle.lexis.specs.declared.kind.Kind.TheVariants.{Name, Not, Variable, Anonymous, Number, Open, Close, Comma, Dot, If, Minus, Plus, Times, Equal, Unequal, AlsoUnequal, Less, AtMost, Greater, AtLeast, End, Stray, String, Bar}
use Rattle.texts.specs.declared.place.Place.{Place}
use Rattle.tokens.specs.declared.Token.{Token as TextToken}
use Rattle.lexis.specs.Kind.{kind_number}
use Rattle.lexis.specs.Strings.{between}
use Rattle.lexis.specs.Number.{decimal}
use Rattle.tokens.specs.Token.{next_token}
use Rattle.texts.specs.Parts.{part}
use Rattle.tokens.specs.Tokens.{tokens_from}
use Rattle.texts.specs.Place.{place_from}
use Rattle.reading.specs.Reading.{Placed}
use Rattle.meaning.specs.Domain.{equal, unequal, less, at_most, greater, at_least}
use Rattle.meaning.specs.Rules.{Bytes}
use Rattle.grammar.specs.Tokens.{sign, <>, Symbol, underscore, minus, opening, closing, comma, dot, :-, plus, times, bar, Token, name, variable, string, number, comparison, symbol, stray}
use Rattle.syntax.specs.declared.token.TokenRead.{TokenRead}

-- the token that bytes of a kind are; the end is none, and stands here for a stray byte
unfoldable pub token_of : Kind → Bytes → Token
token_of Name b = name b
token_of Not b = symbol Symbol.not
token_of Variable b = variable b
token_of Anonymous b = symbol underscore
token_of Number b = number (decimal b)
token_of Open b = symbol opening
token_of Close b = symbol closing
token_of Comma b = symbol comma
token_of Dot b = symbol dot
token_of If b = symbol :-
token_of Minus b = symbol minus
token_of Plus b = symbol plus
token_of Times b = symbol times
token_of Equal b = comparison (sign equal)
token_of Unequal b = comparison (sign unequal)
token_of AlsoUnequal b = comparison <>
token_of Less b = comparison (sign less)
token_of AtMost b = comparison (sign at_most)
token_of Greater b = comparison (sign greater)
token_of AtLeast b = comparison (sign at_least)
token_of End b = stray 0
token_of Stray b = stray (get_or b 0 0)
token_of String b = string (between b)
token_of Bar b = symbol bar

abbrev pub placed_token : Bytes → TextToken → Placed Place Token
placed_token text t = record { token = token_of t.kind (part text t.place); place = t.place }

-- the tokens from a place on; comments and newlines may stand in a program, and not on a facts line
abbrev pub placed_from : (ground : Bool) → Bytes → ℕ → List (Placed Place Token)
placed_from ground text at = map (placed_token text) (tokens_from (not ground) text at)

-- the end of a text, empty
abbrev pub end_of : Bytes → Place
end_of text = place_from text (length text) 0

-- the first token at or after a place, as the productions see it
abbrev pub token_read : (ground : Bool) → Bytes → ℕ → TokenRead
token_read ground text at = let t = next_token (not ground) text at in record { kind = kind_number t.kind; place = t.place }

-- where reading goes on behind it
abbrev pub next_of : TokenRead → ℕ
next_of t = t.place.start + t.place.len
