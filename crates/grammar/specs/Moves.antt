-- Moves of a machine over the tokens, a proof's tool and no promise: a token that may stand next, what begins at it, and the state behind it.
use Rattle.std.specs.Prelude.{Bool, true, false, List, [], ◌∷◌, ℕ, eqb}
use Rattle.std.proofs.Math.Option.{Option, none, some}
use Rattle.reading.specs.Machine.{Step}
use Rattle.meaning.specs.Domain.{Comparison, equal, unequal, less, at_most, greater, at_least}
use Rattle.meaning.specs.Rules.{Bytes}
use Rattle.grammar.specs.Tokens.{Sign, sign, <>, Symbol, underscore, not, minus, opening, closing, comma, dot, :-, plus, times, bar, Token, name, variable, string, number, comparison, symbol, stray}
use Rattle.grammar.specs.Trees.{Free}
use Rattle.grammar.specs.Spelling.{Mark, inside}

pub data Move (S : Type 0) : Type 0 where
  on_name on_variable on_string : Mark → (Bytes → S) → Move S
  on_number : Mark → (ℕ → S) → Move S
  on_comparison : (Sign → S) → Move S
  on : Mark → Symbol → S → Move S

-- moves that only a program has
unfoldable pub free_moves : {S : Type 0} (ground : Bool) → (Free ground → List (Move S)) → List (Move S)
free_moves true f = []
free_moves false f = f tt

-- ---- numbers for the kinds of tokens

unfoldable pub symbol_number : Symbol → ℕ
symbol_number not = 1
symbol_number underscore = 3
symbol_number opening = 5
symbol_number closing = 6
symbol_number comma = 7
symbol_number dot = 8
symbol_number :- = 9
symbol_number minus = 10
symbol_number plus = 11
symbol_number times = 12
symbol_number bar = 23

unfoldable pub comparison_number : Comparison → ℕ
comparison_number equal = 13
comparison_number unequal = 14
comparison_number less = 16
comparison_number at_most = 17
comparison_number greater = 18
comparison_number at_least = 19

unfoldable pub sign_number : Sign → ℕ
sign_number (sign c) = comparison_number c
sign_number <> = 15

unfoldable pub token_number : Token → ℕ
token_number (name b) = 0
token_number (variable b) = 2
token_number (number n) = 4
token_number (comparison r) = sign_number r
token_number (symbol s) = symbol_number s
token_number (stray b) = 21
token_number (string b) = 22

-- ---- the step that a list of moves allows

unfoldable pub when : {S : Type 0} → Bool → Step S Mark → Option (Step S Mark)
when true x = some x
when false x = none

unfoldable pub fire : {S : Type 0} → Move S → Token → Option (Step S Mark)
fire (on_name m k) (name b) = some (record { mark = m; state = k b })
fire (on_name m k) (variable b) = none
fire (on_name m k) (string b) = none
fire (on_name m k) (number n) = none
fire (on_name m k) (comparison r) = none
fire (on_name m k) (symbol s) = none
fire (on_name m k) (stray b) = none
fire (on_variable m k) (name b) = none
fire (on_variable m k) (variable b) = some (record { mark = m; state = k b })
fire (on_variable m k) (string b) = none
fire (on_variable m k) (number n) = none
fire (on_variable m k) (comparison r) = none
fire (on_variable m k) (symbol s) = none
fire (on_variable m k) (stray b) = none
fire (on_string m k) (name b) = none
fire (on_string m k) (variable b) = none
fire (on_string m k) (string b) = some (record { mark = m; state = k b })
fire (on_string m k) (number n) = none
fire (on_string m k) (comparison r) = none
fire (on_string m k) (symbol s) = none
fire (on_string m k) (stray b) = none
fire (on_number m k) (name b) = none
fire (on_number m k) (variable b) = none
fire (on_number m k) (string b) = none
fire (on_number m k) (number n) = some (record { mark = m; state = k n })
fire (on_number m k) (comparison r) = none
fire (on_number m k) (symbol s) = none
fire (on_number m k) (stray b) = none
fire (on_comparison k) (name b) = none
fire (on_comparison k) (variable b) = none
fire (on_comparison k) (string b) = none
fire (on_comparison k) (number n) = none
fire (on_comparison k) (comparison r) = some (record { mark = inside; state = k r })
fire (on_comparison k) (symbol s) = none
fire (on_comparison k) (stray b) = none
fire (on m z x) (name b) = none
fire (on m z x) (variable b) = none
fire (on m z x) (string b) = none
fire (on m z x) (number n) = none
fire (on m z x) (comparison r) = none
fire (on m z x) (symbol s) = when (eqb (symbol_number s) (symbol_number z)) (record { mark = m; state = x })
fire (on m z x) (stray b) = none

unfoldable pub either : {S : Type 0} → Option (Step S Mark) → Option (Step S Mark) → Option (Step S Mark)
either none y = y
either (some x) y = some x

unfoldable pub try : {S : Type 0} → List (Move S) → Token → Option (Step S Mark)
try [] t = none
try (m ∷ ms) t = either (fire m t) (try ms t)
