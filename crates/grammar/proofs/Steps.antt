-- States that take a token alike: a term is read behind an opening parenthesis, and on the left of a comparison, as where a term is wanted.
use mathlib.Core.Path.{◌≡◌, refl, sym as inv, ◌∙◌}
use mathlib.Core.Bool.{Bool}
use mathlib.Core.Logic.{◌⊎◌, inl, inr}
use Prim.Native.Nat.{ℕ, ◌≤◌}
use native.Mathlib.Omega.{arith}
use borrow.Author.Tests.{ne_eqb}
use Rattle.meaning.specs.Rules.{Bytes}
use Rattle.grammar.specs.Tokens.{underscore, not, minus, opening, closing, comma, dot, :-, plus, times, bar, Token, name, variable, string, number, comparison, symbol, stray}
use Rattle.grammar.specs.Trees.{empty}
use Rattle.grammar.specs.States.{BodyContext, AtomContext, literal_in, argument_in, left_in, atom_wanted, atom_minus, opened, term_wanted, term_minus, term_mark}
use Rattle.grammar.specs.Moves.{symbol_number, token_number, when, fire, either, try}
use Rattle.grammar.specs.Machine.{else_wanted, else_minus, a_term, moves, step}
use Rattle.grammar.proofs.Moves.{free_try}
use Rattle.grammar.proofs.Numbers.{bytes_of, fire_number, fire_by_number, signs, string_by_number}

module _ {ground : Bool} where
  -- unless it closes at once
  pub opened_same : (a : AtomContext ground) (s : Bool) (b : Bytes) (t : Token) (k : ℕ) → token_number t ≡ k → (k ≡ 6 → ⊥) → step (opened a s b) t ≡ step (term_wanted (argument_in a s b empty)) t
  unfolding step moves try either fire_number when symbol_number
  opened_same a s b t k e h = rw (fire_by_number _ t, e, ne_eqb k 6 h)

  -- a variable, `_` or a number
  left_word : (c : BodyContext ground) (t : Token) (k : ℕ) → token_number t ≡ k → 2 ≤ k → k ≤ 4 → step (atom_wanted (literal_in c)) t ≡ step (term_wanted (left_in c)) t
  unfolding step moves try fire either when symbol_number token_number else_wanted a_term term_mark
  left_word c (name b) k e l h = absurd (omega arith)
  left_word c (variable b) k e l h = inv (free_try ground _ c.free _)
  left_word c (string b) k e l h = absurd (omega arith)
  left_word c (number n) k e l h = refl
  left_word c (comparison r) k e l h = absurd (omega (arith, (signs r).low))
  left_word c (symbol underscore) k e l h = inv (free_try ground _ c.free _)
  left_word c (symbol not) k e l h = absurd (omega arith)
  left_word c (symbol minus) k e l h = absurd (omega arith)
  left_word c (symbol opening) k e l h = absurd (omega arith)
  left_word c (symbol closing) k e l h = absurd (omega arith)
  left_word c (symbol comma) k e l h = absurd (omega arith)
  left_word c (symbol dot) k e l h = absurd (omega arith)
  left_word c (symbol :-) k e l h = absurd (omega arith)
  left_word c (symbol plus) k e l h = absurd (omega arith)
  left_word c (symbol times) k e l h = absurd (omega arith)
  left_word c (symbol bar) k e l h = absurd (omega arith)
  left_word c (stray b) k e l h = absurd (omega arith)

  left_string : (c : BodyContext ground) (t : Token) (b : Bytes) → t ≡ string b → step (atom_wanted (literal_in c)) t ≡ step (term_wanted (left_in c)) t
  unfolding step moves try fire either else_wanted a_term term_mark
  left_string c t b e = rw e

  -- .. or a string
  pub left_same : (c : BodyContext ground) (t : Token) (k : ℕ) → token_number t ≡ k → 2 ≤ k → (k ≤ 4) ⊎ (k ≡ 22) → step (atom_wanted (literal_in c)) t ≡ step (term_wanted (left_in c)) t
  left_same c t k e l (inl h) = left_word c t k e l h
  left_same c t k e l (inr h) = left_string c t (bytes_of t) (string_by_number t (e ∙ h))

  -- a number behind a minus
  pub left_minus_same : (c : BodyContext ground) (n : ℕ) → step (atom_minus (literal_in c)) (number n) ≡ step (term_minus (left_in c)) (number n)
  unfolding step moves try fire either else_minus
  left_minus_same c n = refl
