-- The rewriting on the documents' cases: a minus goes where it belongs to the number 0, and stays where it is an operation.
use mathlib.Core.Path.{◌≡◌, refl}
use mathlib.Core.List.{List, [], ◌∷◌}
use Rattle.meaning.specs.Domain.{equal, unequal}
use Rattle.grammar.specs.Tokens.{sign, <>, minus, opening, closing, dot, :-, bar, Token, name, variable, string, number, comparison, symbol}
use Rattle.grammar.specs.PlainForm.{plain_sign}
use Rattle.grammar.specs.Moves.{token_number, symbol_number, sign_number, comparison_number}
use Rattle.grammar.specs.Writing.{digits, token_bytes, symbol_bytes, sign_bytes, comparison_bytes}
use Rattle.plaintokens.specs.PlainTokens.{plain_token, first_kind, first_byte, plain_unless, plain_behind, plain_tokens, written_behind}

abbrev X : List Token → List Token
X ts = variable (88 ∷ []) ∷ comparison (sign equal) ∷ ts

opened : Unit {0}
unfolding plain_token plain_sign first_kind first_byte plain_unless plain_behind token_number symbol_number sign_number comparison_number digits token_bytes symbol_bytes sign_bytes comparison_bytes
opened = tt

-- X=1-0 stays, X=1--0 is X=1-0, X=-0-0 is X=0-0, X=-1 stays
operation : plain_tokens (X (number 1 ∷ symbol minus ∷ number 0 ∷ [])) ≡ X (number 1 ∷ symbol minus ∷ number 0 ∷ [])
unfolding opened
operation = refl

-- and so does X=""-0
operation_on_a_string : plain_tokens (X (string [] ∷ symbol minus ∷ number 0 ∷ [])) ≡ X (string [] ∷ symbol minus ∷ number 0 ∷ [])
unfolding opened
operation_on_a_string = refl

sign_behind_operation : plain_tokens (X (number 1 ∷ symbol minus ∷ symbol minus ∷ number 0 ∷ [])) ≡ X (number 1 ∷ symbol minus ∷ number 0 ∷ [])
unfolding opened
sign_behind_operation = refl

sign_before_operation : plain_tokens (X (symbol minus ∷ number 0 ∷ symbol minus ∷ number 0 ∷ [])) ≡ X (number 0 ∷ symbol minus ∷ number 0 ∷ [])
unfolding opened
sign_before_operation = refl

other_number : plain_tokens (X (symbol minus ∷ number 10 ∷ [])) ≡ X (symbol minus ∷ number 10 ∷ [])
unfolding opened
other_number = refl

-- -p():-X<>a. is -p:-X!=a.
parentheses : plain_tokens (symbol minus ∷ name (112 ∷ []) ∷ symbol opening ∷ symbol closing ∷ symbol :- ∷ variable (88 ∷ []) ∷ comparison <> ∷ name (97 ∷ []) ∷ symbol dot ∷ []) ≡ symbol minus ∷ name (112 ∷ []) ∷ symbol :- ∷ variable (88 ∷ []) ∷ comparison (sign unequal) ∷ name (97 ∷ []) ∷ symbol dot ∷ []
unfolding opened
parentheses = refl

-- a|-b():-c. is a|-b:-c., and no blank stands in it
heads : plain_tokens (name (97 ∷ []) ∷ symbol bar ∷ symbol minus ∷ name (98 ∷ []) ∷ symbol opening ∷ symbol closing ∷ symbol :- ∷ name (99 ∷ []) ∷ symbol dot ∷ []) ≡ name (97 ∷ []) ∷ symbol bar ∷ symbol minus ∷ name (98 ∷ []) ∷ symbol :- ∷ name (99 ∷ []) ∷ symbol dot ∷ []
unfolding opened
heads = refl

no_blank : written_behind 8 (name (97 ∷ []) ∷ symbol bar ∷ name (98 ∷ []) ∷ symbol :- ∷ name (99 ∷ []) ∷ symbol dot ∷ []) ≡ 97 ∷ 124 ∷ 98 ∷ 58 ∷ 45 ∷ 99 ∷ 46 ∷ []
unfolding opened written_behind
no_blank = refl
