-- Steps by the number of a token's kind: what code that knows a token by its number needs. `try_by_number` turns a list of moves into
-- tests on that number; the laws behind it say which token a number leaves.
use mathlib.Core.Path.{◌≡◌, refl, sym as inv, ◌∙◌}
use mathlib.Core.Bool.{false, ◌&&◌}
use mathlib.Core.Option.{Option, none}
use mathlib.Core.List.{List, [], ◌∷◌}
use Prim.Native.Nat.{ℕ, ◌≤◌}
use native.Mathlib.Omega.{arith}
use lib.Dec.{eqb, leb}
use lib.ListN.{get_or, get_or-eq_default}
use borrow.Author.Tests.{ne_eqb, eqb-false, le-leb}
use Rattle.reading.specs.Machine.{Step}
use Rattle.meaning.specs.Domain.{Comparison, equal, unequal, less, at_most, greater, at_least}
use Rattle.meaning.specs.Rules.{Bytes}
use Rattle.grammar.specs.Tokens.{Sign, sign, <>, Symbol, underscore, not, minus, opening, closing, comma, dot, :-, plus, times, bar, Token, name, variable, string, number, comparison, symbol, stray}
use Rattle.grammar.specs.Spelling.{Mark, inside}
use Rattle.grammar.specs.Moves.{Move, on_name, on_variable, on_string, on_number, on_comparison, on, symbol_number, comparison_number, sign_number, token_number, when, fire, either, try}

-- ---- what a token holds

unfoldable pub bytes_of : Token → Bytes
bytes_of (name b) = b
bytes_of (variable b) = b
bytes_of (string b) = b
bytes_of (number n) = []
bytes_of (comparison r) = []
bytes_of (symbol s) = []
bytes_of (stray b) = []

unfoldable pub value_of : Token → ℕ
value_of (name b) = 0
value_of (variable b) = 0
value_of (string b) = 0
value_of (number n) = n
value_of (comparison r) = 0
value_of (symbol s) = 0
value_of (stray b) = 0

unfoldable pub sign_of : Token → Sign
sign_of (name b) = <>
sign_of (variable b) = <>
sign_of (string b) = <>
sign_of (number n) = <>
sign_of (comparison r) = r
sign_of (symbol s) = <>
sign_of (stray b) = <>

-- ---- the numbers of symbols and of signs are apart from the others

record SymbolNumber (n : ℕ) : Type 0 where
  apart : 13 ≤ n → n ≡ 23
  no_name : eqb n 0 ≡ false
  no_variable : eqb n 2 ≡ false
  no_number : eqb n 4 ≡ false
  no_sign : leb 13 n && leb n 19 ≡ false

symbols : (s : Symbol) → SymbolNumber (symbol_number s)
unfolding symbol_number
symbols underscore = record { apart = λ h. omega arith; no_name = refl; no_variable = refl; no_number = refl; no_sign = refl }
symbols not = record { apart = λ h. omega arith; no_name = refl; no_variable = refl; no_number = refl; no_sign = refl }
symbols minus = record { apart = λ h. omega arith; no_name = refl; no_variable = refl; no_number = refl; no_sign = refl }
symbols opening = record { apart = λ h. omega arith; no_name = refl; no_variable = refl; no_number = refl; no_sign = refl }
symbols closing = record { apart = λ h. omega arith; no_name = refl; no_variable = refl; no_number = refl; no_sign = refl }
symbols comma = record { apart = λ h. omega arith; no_name = refl; no_variable = refl; no_number = refl; no_sign = refl }
symbols dot = record { apart = λ h. omega arith; no_name = refl; no_variable = refl; no_number = refl; no_sign = refl }
symbols :- = record { apart = λ h. omega arith; no_name = refl; no_variable = refl; no_number = refl; no_sign = refl }
symbols plus = record { apart = λ h. omega arith; no_name = refl; no_variable = refl; no_number = refl; no_sign = refl }
symbols times = record { apart = λ h. omega arith; no_name = refl; no_variable = refl; no_number = refl; no_sign = refl }
symbols bar = record { apart = λ h. omega arith; no_name = refl; no_variable = refl; no_number = refl; no_sign = refl }

pub record SignNumber (n : ℕ) : Type 0 where
  pub low : 13 ≤ n
  pub high : n ≤ 19

comparisons : (c : Comparison) → SignNumber (comparison_number c)
unfolding comparison_number
comparisons equal = record { low = omega arith; high = omega arith }
comparisons unequal = record { low = omega arith; high = omega arith }
comparisons less = record { low = omega arith; high = omega arith }
comparisons at_most = record { low = omega arith; high = omega arith }
comparisons greater = record { low = omega arith; high = omega arith }
comparisons at_least = record { low = omega arith; high = omega arith }

pub signs : (r : Sign) → SignNumber (sign_number r)
unfolding sign_number
signs (sign c) = comparisons c
signs <> = record { low = omega arith; high = omega arith }

-- ---- moves by number

unfoldable pub fire_number : {S : Type 0} → Move S → ℕ → Token → Option (Step S Mark)
fire_number (on_name m k) n t = when (eqb n 0) (record { mark = m; state = k (bytes_of t) })
fire_number (on_variable m k) n t = when (eqb n 2) (record { mark = m; state = k (bytes_of t) })
fire_number (on_string m k) n t = when (eqb n 22) (record { mark = m; state = k (bytes_of t) })
fire_number (on_number m k) n t = when (eqb n 4) (record { mark = m; state = k (value_of t) })
fire_number (on_comparison k) n t = when (leb 13 n && leb n 19) (record { mark = inside; state = k (sign_of t) })
fire_number (on m s x) n t = when (eqb n (symbol_number s)) (record { mark = m; state = x })

unfoldable pub try_number : {S : Type 0} → List (Move S) → ℕ → Token → Option (Step S Mark)
try_number [] n t = none
try_number (m ∷ ms) n t = either (fire_number m n t) (try_number ms n t)

unlike : (n m : ℕ) → eqb n m ≡ false → eqb m n ≡ false
unlike n m h = ne_eqb m n (λ e. eqb-false n m h (inv e))

pub fire_by_number : {S : Type 0} (m : Move S) (t : Token) → fire m t ≡ fire_number m (token_number t) t
unfolding fire fire_number token_number when bytes_of value_of sign_of
fire_by_number (on_name m k) (name b) = refl
fire_by_number (on_name m k) (variable b) = refl
fire_by_number (on_name m k) (string b) = refl
fire_by_number (on_name m k) (number n) = refl
fire_by_number (on_name m k) (comparison r) = rw (ne_eqb (sign_number r) 0 (λ e. omega (arith, (signs r).low)))
fire_by_number (on_name m k) (symbol s) = rw (symbols s).no_name
fire_by_number (on_name m k) (stray b) = refl
fire_by_number (on_variable m k) (name b) = refl
fire_by_number (on_variable m k) (variable b) = refl
fire_by_number (on_variable m k) (string b) = refl
fire_by_number (on_variable m k) (number n) = refl
fire_by_number (on_variable m k) (comparison r) = rw (ne_eqb (sign_number r) 2 (λ e. omega (arith, (signs r).low)))
fire_by_number (on_variable m k) (symbol s) = rw (symbols s).no_variable
fire_by_number (on_variable m k) (stray b) = refl
fire_by_number (on_string m k) (name b) = refl
fire_by_number (on_string m k) (variable b) = refl
fire_by_number (on_string m k) (string b) = refl
fire_by_number (on_string m k) (number n) = refl
fire_by_number (on_string m k) (comparison r) = rw (ne_eqb (sign_number r) 22 (λ e. omega (arith, (signs r).high)))
fire_by_number (on_string m k) (symbol s) = rw (ne_eqb (symbol_number s) 22 (λ e. omega (arith, (symbols s).apart (omega arith))))
fire_by_number (on_string m k) (stray b) = refl
fire_by_number (on_number m k) (name b) = refl
fire_by_number (on_number m k) (variable b) = refl
fire_by_number (on_number m k) (string b) = refl
fire_by_number (on_number m k) (number n) = refl
fire_by_number (on_number m k) (comparison r) = rw (ne_eqb (sign_number r) 4 (λ e. omega (arith, (signs r).low)))
fire_by_number (on_number m k) (symbol s) = rw (symbols s).no_number
fire_by_number (on_number m k) (stray b) = refl
fire_by_number (on_comparison k) (name b) = refl
fire_by_number (on_comparison k) (variable b) = refl
fire_by_number (on_comparison k) (string b) = refl
fire_by_number (on_comparison k) (number n) = refl
fire_by_number (on_comparison k) (comparison r) = rw (le-leb 13 (sign_number r) (signs r).low, le-leb (sign_number r) 19 (signs r).high)
fire_by_number (on_comparison k) (symbol s) = rw (symbols s).no_sign
fire_by_number (on_comparison k) (stray b) = refl
fire_by_number (on m z x) (name b) = rw (unlike (symbol_number z) 0 (symbols z).no_name)
fire_by_number (on m z x) (variable b) = rw (unlike (symbol_number z) 2 (symbols z).no_variable)
fire_by_number (on m z x) (string b) = rw (ne_eqb 22 (symbol_number z) (λ e. omega (arith, (symbols z).apart (omega arith))))
fire_by_number (on m z x) (number n) = rw (unlike (symbol_number z) 4 (symbols z).no_number)
fire_by_number (on m z x) (comparison r) = rw (ne_eqb (sign_number r) (symbol_number z) (λ e. omega (arith, (signs r).high, (symbols z).apart (omega (arith, (signs r).low)))))
fire_by_number (on m z x) (symbol s) = refl
fire_by_number (on m z x) (stray b) = rw (ne_eqb 21 (symbol_number z) (λ e. omega (arith, (symbols z).apart (omega arith))))

pub try_by_number : {S : Type 0} (ms : List (Move S)) (t : Token) (k : ℕ) → token_number t ≡ k → try ms t ≡ try_number ms k t
unfolding try try_number
try_by_number [] t k e = refl
try_by_number (m ∷ ms) t k e = rw (fire_by_number m t, e, try_by_number ms t k e)

-- ---- the token by its number

-- the token that a number and what t holds make up: one of these, or a comparison
unfoldable pub made_up : Token → List Token
made_up t = name (bytes_of t) ∷ symbol not ∷ variable (bytes_of t) ∷ symbol underscore ∷ number (value_of t) ∷ symbol opening ∷ symbol closing ∷ symbol comma ∷ symbol dot ∷ symbol :- ∷ symbol minus ∷ symbol plus ∷ symbol times ∷ []

unfoldable pub rebuilt : ℕ → Token → Token
unfolding made_up
rebuilt k t = get_or (made_up t) k (comparison (sign_of t))

rebuilt_symbol : (s : Symbol) → symbol_number s ≤ 19 → symbol s ≡ rebuilt (symbol_number s) (symbol s)
unfolding rebuilt symbol_number
rebuilt_symbol underscore h = refl
rebuilt_symbol not h = refl
rebuilt_symbol minus h = refl
rebuilt_symbol opening h = refl
rebuilt_symbol closing h = refl
rebuilt_symbol comma h = refl
rebuilt_symbol dot h = refl
rebuilt_symbol :- h = refl
rebuilt_symbol plus h = refl
rebuilt_symbol times h = refl
rebuilt_symbol bar h = absurd (omega arith)

rebuilt_here : (t : Token) → token_number t ≤ 19 → t ≡ rebuilt (token_number t) t
unfolding token_number rebuilt bytes_of value_of sign_of
rebuilt_here (name b) h = refl
rebuilt_here (variable b) h = refl
rebuilt_here (string b) h = absurd (omega arith)
rebuilt_here (number n) h = refl
rebuilt_here (comparison r) h = inv (get_or-eq_default (made_up (comparison r)) (comparison r) (signs r).low)
rebuilt_here (symbol s) h = rebuilt_symbol s h
rebuilt_here (stray b) h = absurd (omega arith)

-- which token it is, where its number is known; a stray byte has the number 21, a string 22, and `|` 23
pub token_by_number : (t : Token) (k : ℕ) → token_number t ≡ k → k ≤ 19 → t ≡ rebuilt k t
token_by_number t k e h = rw e at (rebuilt_here t (rw e h))

pub comparison_by_number : (t : Token) (k : ℕ) → token_number t ≡ k → 13 ≤ k → k ≤ 19 → t ≡ comparison (sign_of t)
unfolding rebuilt
comparison_by_number t k e l h = token_by_number t k e h ∙ get_or-eq_default (made_up t) (comparison (sign_of t)) l

pub string_by_number : (t : Token) → token_number t ≡ 22 → t ≡ string (bytes_of t)
unfolding token_number bytes_of
string_by_number (name b) e = absurd (omega arith)
string_by_number (variable b) e = absurd (omega arith)
string_by_number (string b) e = refl
string_by_number (number n) e = absurd (omega arith)
string_by_number (comparison r) e = absurd (omega (arith, (signs r).high))
string_by_number (symbol s) e = absurd (omega (arith, (symbols s).apart (omega arith)))
string_by_number (stray b) e = absurd (omega arith)
