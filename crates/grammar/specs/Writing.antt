-- The bytes of tokens set side by side, with a blank only where two of them would else read as others.
use Rattle.std.specs.Prelude.{◌≡◌, ◌⊎◌, Bool, true, false, ◌&&◌, ◌||◌, cond, List, [], ◌∷◌, ◌++◌, ℕ, zero, suc, ◌+◌, ◌/◌, ◌%◌, ltb}
use Rattle.meaning.specs.Domain.{Comparison, equal, unequal, less, at_most, greater, at_least}
use Rattle.meaning.specs.Rules.{Bytes}
use Rattle.grammar.specs.Tokens.{Sign, sign, <>, Symbol, underscore, not, minus, opening, closing, comma, dot, :-, plus, times, bar, Token, name, variable, string, number, comparison, symbol, stray}

-- the digits of n, with at most k of them before the last
unfoldable pub digits : ℕ → ℕ → Bytes
digits zero n = (48 + n) ∷ []
digits (suc k) n = elim (ltb n 10) [ true ↦ (48 + n) ∷ [] | false ↦ digits k (n / 10) ++ (48 + n % 10) ∷ [] ]

unfoldable pub symbol_bytes : Symbol → Bytes
symbol_bytes underscore = 95 ∷ []
symbol_bytes not = 110 ∷ 111 ∷ 116 ∷ []
symbol_bytes minus = 45 ∷ []
symbol_bytes opening = 40 ∷ []
symbol_bytes closing = 41 ∷ []
symbol_bytes comma = 44 ∷ []
symbol_bytes dot = 46 ∷ []
symbol_bytes :- = 58 ∷ 45 ∷ []
symbol_bytes plus = 43 ∷ []
symbol_bytes times = 42 ∷ []
symbol_bytes bar = 124 ∷ []

unfoldable pub comparison_bytes : Comparison → Bytes
comparison_bytes equal = 61 ∷ []
comparison_bytes unequal = 33 ∷ 61 ∷ []
comparison_bytes less = 60 ∷ []
comparison_bytes at_most = 60 ∷ 61 ∷ []
comparison_bytes greater = 62 ∷ []
comparison_bytes at_least = 62 ∷ 61 ∷ []

unfoldable pub sign_bytes : Sign → Bytes
sign_bytes (sign c) = comparison_bytes c
sign_bytes <> = 60 ∷ 62 ∷ []

unfoldable pub token_bytes : Token → Bytes
token_bytes (name b) = b
token_bytes (variable b) = b
token_bytes (string b) = 34 ∷ b ++ 34 ∷ []
token_bytes (number n) = digits n n
token_bytes (comparison r) = sign_bytes r
token_bytes (symbol s) = symbol_bytes s
token_bytes (stray b) = b ∷ []

unfoldable pub is_word_symbol : Symbol → Bool
is_word_symbol underscore = true
is_word_symbol not = true
is_word_symbol minus = false
is_word_symbol opening = false
is_word_symbol closing = false
is_word_symbol comma = false
is_word_symbol dot = false
is_word_symbol :- = false
is_word_symbol plus = false
is_word_symbol times = false
is_word_symbol bar = false

-- made of letters, digits and `_`
unfoldable pub is_word : Token → Bool
is_word (name b) = true
is_word (variable b) = true
is_word (string b) = false
is_word (number n) = true
is_word (comparison r) = false
is_word (symbol s) = is_word_symbol s
is_word (stray b) = false

unfoldable pub is_comparison : Token → Bool
is_comparison (name b) = false
is_comparison (variable b) = false
is_comparison (string b) = false
is_comparison (number n) = false
is_comparison (comparison r) = true
is_comparison (symbol s) = false
is_comparison (stray b) = false

-- two tokens that could read as others side by side: two words, or two comparisons
unfoldable pub run_together : Token → Token → Bool
run_together t u = is_word t && is_word u || is_comparison t && is_comparison u

-- the blank behind t, before these
unfoldable pub blank : Token → List Token → Bytes
blank t [] = []
blank t (u ∷ us) = cond (run_together t u) (32 ∷ []) []

unfoldable pub written : List Token → Bytes
written [] = []
written (t ∷ ts) = token_bytes t ++ blank t ts ++ written ts

-- each token and the next can be set side by side, but `not` and a name
abbrev pub Apart : List Token → Type 0
Apart [] = Unit {0}
Apart (t ∷ []) = Unit {0}
Apart (t ∷ u ∷ ts) = ((run_together t u ≡ false) ⊎ ((b : Bytes) × (t ≡ symbol not) × (u ≡ name b))) × Apart (u ∷ ts)
