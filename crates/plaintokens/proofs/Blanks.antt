-- Blanks by the numbers of kinds are the blanks of `written`.
use mathlib.Core.Path.{◌≡◌, refl, ap, ◌∙◌}
use mathlib.Core.Bool.{Bool, true, false, ◌&&◌, ◌||◌, cond}
use mathlib.Core.List.{List, [], ◌∷◌, ◌++◌, append_assoc, append-nil}
use Rattle.meaning.specs.Domain.{equal, unequal, less, at_most, greater, at_least}
use Rattle.meaning.specs.Rules.{Bytes}
use Rattle.grammar.specs.Tokens.{sign, <>, underscore, not, minus, opening, closing, comma, dot, :-, plus, times, bar, Token, name, variable, string, number, comparison, symbol, stray}
use Rattle.grammar.specs.Moves.{token_number, symbol_number, sign_number, comparison_number}
use Rattle.grammar.specs.Writing.{token_bytes, is_word_symbol, is_word, is_comparison, run_together, blank, written}
use Rattle.plaintokens.specs.Neighbours.{word, compares, runs_together}
use Rattle.plaintokens.specs.PlainTokens.{written_behind}

-- a token's kind says whether it is a word or a comparison, and it is not both
record Sorted (t : Token) : Type 0 where
  pub is_a_word : is_word t ≡ word (token_number t)
  pub is_compared : is_comparison t ≡ compares (token_number t)
  pub not_both : is_word t && is_comparison t ≡ false

sorted : (t : Token) → Sorted t
unfolding is_word is_word_symbol is_comparison token_number symbol_number sign_number comparison_number
sorted (name b) = record { is_a_word = refl; is_compared = refl; not_both = refl }
sorted (variable b) = record { is_a_word = refl; is_compared = refl; not_both = refl }
sorted (string b) = record { is_a_word = refl; is_compared = refl; not_both = refl }
sorted (number n) = record { is_a_word = refl; is_compared = refl; not_both = refl }
sorted (comparison (sign equal)) = record { is_a_word = refl; is_compared = refl; not_both = refl }
sorted (comparison (sign unequal)) = record { is_a_word = refl; is_compared = refl; not_both = refl }
sorted (comparison (sign less)) = record { is_a_word = refl; is_compared = refl; not_both = refl }
sorted (comparison (sign at_most)) = record { is_a_word = refl; is_compared = refl; not_both = refl }
sorted (comparison (sign greater)) = record { is_a_word = refl; is_compared = refl; not_both = refl }
sorted (comparison (sign at_least)) = record { is_a_word = refl; is_compared = refl; not_both = refl }
sorted (comparison <>) = record { is_a_word = refl; is_compared = refl; not_both = refl }
sorted (symbol underscore) = record { is_a_word = refl; is_compared = refl; not_both = refl }
sorted (symbol not) = record { is_a_word = refl; is_compared = refl; not_both = refl }
sorted (symbol minus) = record { is_a_word = refl; is_compared = refl; not_both = refl }
sorted (symbol opening) = record { is_a_word = refl; is_compared = refl; not_both = refl }
sorted (symbol closing) = record { is_a_word = refl; is_compared = refl; not_both = refl }
sorted (symbol comma) = record { is_a_word = refl; is_compared = refl; not_both = refl }
sorted (symbol dot) = record { is_a_word = refl; is_compared = refl; not_both = refl }
sorted (symbol :-) = record { is_a_word = refl; is_compared = refl; not_both = refl }
sorted (symbol plus) = record { is_a_word = refl; is_compared = refl; not_both = refl }
sorted (symbol times) = record { is_a_word = refl; is_compared = refl; not_both = refl }
sorted (symbol bar) = record { is_a_word = refl; is_compared = refl; not_both = refl }
sorted (stray b) = record { is_a_word = refl; is_compared = refl; not_both = refl }

either_way : (w v c d : Bool) → w && c ≡ false → (w && v || c && d) ≡ cond w v (c && d)
either_way true true c d h = refl
either_way true false c d h = rw h
either_way false v c d h = refl

together : (t u : Token) → run_together t u ≡ runs_together (token_number t) (token_number u)
unfolding run_together
together t u = either_way (is_word t) (is_word u) (is_comparison t) (is_comparison u) (sorted t).not_both ∙ rw ((sorted t).is_a_word, (sorted u).is_a_word, (sorted t).is_compared, (sorted u).is_compared)

written_on : (t : Token) (ts : List Token) → written (t ∷ ts) ≡ token_bytes t ++ written_behind (token_number t) ts
unfolding written written_behind blank
written_on t [] = append-nil (token_bytes t ++ [])
written_on t (u ∷ us) = ap (λ (b : Bytes). token_bytes t ++ blank t (u ∷ us) ++ b) (written_on u us) ∙ rw (together t u) (append_assoc (token_bytes t) _ _)

-- before the first token stands no word and no comparison
pub written_first : (ts : List Token) → written ts ≡ written_behind 8 ts
unfolding written written_behind
written_first [] = refl
written_first (t ∷ ts) = written_on t ts
