-- Tokens that their bytes spell: the bytes of a token are a token of its kind, and are read as that token.
use mathlib.Core.Path.{◌≡◌, refl, sym as inv, ap}
use Rattle.lexis.specs.declared.kind.Kind.{Kind}
use Rattle.lexis.specs.declared.kind.Kind.TheVariants.{Name, Not, Variable, Anonymous, Number, Open, Close, Comma, Dot, If, Minus, Plus, Times, Equal, Unequal, AlsoUnequal, Less, AtMost, Greater, AtLeast, End, Stray, String, Bar}
use Rattle.tokens.specs.Spells.{Spells}
use Rattle.lexis.proofs.Strings.{between_quoted, string_parts}
use Rattle.meaning.specs.Domain.{Comparison, equal, unequal, less, at_most, greater, at_least}
use Rattle.meaning.specs.Rules.{Bytes}
use Rattle.grammar.specs.Tokens.{Sign, sign, <>, Symbol, underscore, not, minus, opening, closing, comma, dot, :-, plus, times, bar, Token, name, variable, string, number, comparison, symbol, stray}
use Rattle.grammar.specs.Writing.{symbol_bytes, comparison_bytes, sign_bytes, token_bytes}
use Rattle.syntax.specs.Text.{token_of}
use Rattle.plainform.proofs.Digits.{decimal_digits, number_written}

unfoldable pub symbol_kind : Symbol → Kind
symbol_kind underscore = Anonymous
symbol_kind not = Not
symbol_kind minus = Minus
symbol_kind opening = Open
symbol_kind closing = Close
symbol_kind comma = Comma
symbol_kind dot = Dot
symbol_kind :- = If
symbol_kind plus = Plus
symbol_kind times = Times
symbol_kind bar = Bar

unfoldable pub comparison_kind : Comparison → Kind
comparison_kind equal = Equal
comparison_kind unequal = Unequal
comparison_kind less = Less
comparison_kind at_most = AtMost
comparison_kind greater = Greater
comparison_kind at_least = AtLeast

unfoldable pub sign_kind : Sign → Kind
sign_kind (sign c) = comparison_kind c
sign_kind <> = AlsoUnequal

-- the kind of a token
unfoldable pub kind_for : Token → Kind
kind_for (name b) = Name
kind_for (variable b) = Variable
kind_for (string b) = String
kind_for (number n) = Number
kind_for (comparison r) = sign_kind r
kind_for (symbol s) = symbol_kind s
kind_for (stray b) = Stray

-- its bytes are a token of its kind
abbrev pub Proper : Token → Type 0
Proper t = Spells (kind_for t) (token_bytes t)

-- the kind and the bytes say the token
pub token_again : (t : Token) → Proper t → token_of (kind_for t) (token_bytes t) ≡ t
unfolding token_of kind_for symbol_kind sign_kind comparison_kind token_bytes
token_again (name b) h = refl
token_again (variable b) h = refl
token_again (string b) h = ap string (between_quoted b)
token_again (number n) h = ap number (decimal_digits n)
token_again (comparison (sign equal)) h = refl
token_again (comparison (sign unequal)) h = refl
token_again (comparison (sign less)) h = refl
token_again (comparison (sign at_most)) h = refl
token_again (comparison (sign greater)) h = refl
token_again (comparison (sign at_least)) h = refl
token_again (comparison <>) h = refl
token_again (symbol underscore) h = refl
token_again (symbol not) h = refl
token_again (symbol minus) h = refl
token_again (symbol opening) h = refl
token_again (symbol closing) h = refl
token_again (symbol comma) h = refl
token_again (symbol dot) h = refl
token_again (symbol :-) h = refl
token_again (symbol plus) h = refl
token_again (symbol times) h = refl
token_again (symbol bar) h = refl
token_again (stray b) h = absurd h

-- and the token that bytes spell has those bytes, and their kind
pub token_says : (kind : Kind) (b : Bytes) → Spells kind b → (token_bytes (token_of kind b) ≡ b) × (kind_for (token_of kind b) ≡ kind)
unfolding token_of kind_for symbol_kind sign_kind comparison_kind token_bytes symbol_bytes sign_bytes comparison_bytes
token_says Name b s = (refl, refl)
token_says Not b s = (inv s, refl)
token_says Variable b s = (refl, refl)
token_says Anonymous b s = (inv s, refl)
token_says Number b s = (number_written b s, refl)
token_says Open b s = (inv s, refl)
token_says Close b s = (inv s, refl)
token_says Comma b s = (inv s, refl)
token_says Dot b s = (inv s, refl)
token_says If b s = (inv s, refl)
token_says Minus b s = (inv s, refl)
token_says Plus b s = (inv s, refl)
token_says Times b s = (inv s, refl)
token_says Equal b s = (inv s, refl)
token_says Unequal b s = (inv s, refl)
token_says AlsoUnequal b s = (inv s, refl)
token_says Less b s = (inv s, refl)
token_says AtMost b s = (inv s, refl)
token_says Greater b s = (inv s, refl)
token_says AtLeast b s = (inv s, refl)
token_says End b s = absurd s
token_says Stray b s = absurd s
token_says String b s = (inv (string_parts b s), refl)
token_says Bar b s = (inv s, refl)

pub says_proper : (kind : Kind) (b : Bytes) → Spells kind b → Proper (token_of kind b)
says_proper kind b s = let q = token_says kind b s in rw (q.1, q.0) s
