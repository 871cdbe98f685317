-- What holds of the plain form of every tree. The statements stand at the end.
use mathlib.Core.Path.{◌≡◌, refl, sym as inv}
use mathlib.Core.Logic.{◌⊎◌, inl, inr}
use mathlib.Core.Bool.{Bool, true, false, ◌||◌}
use mathlib.Core.List.{List, [], ◌∷◌, append-nil}
use Prim.Native.Nat.{◌≤◌}
use native.Mathlib.Nat.{le_refl}
use lib.ListN.{length}
use Rattle.reading.specs.Reading.{Placed, tokens, unplaced, Within, tree, Reading, read}
use Rattle.meaning.specs.Rules.{Bytes}
use Rattle.grammar.specs.Tokens.{underscore, not, minus, opening, closing, comma, dot, :-, plus, times, bar, Token, name, variable, string, number, comparison, symbol, stray, sign}
use Rattle.meaning.specs.Domain.{unequal}
use Rattle.grammar.specs.Trees.{Program}
use Rattle.grammar.specs.Spelling.{spell}
use Rattle.grammar.specs.Sizes.{language}
use Rattle.grammar.specs.Abstraction.{rules_for}
use Rattle.grammar.specs.PlainForm.{plain_form}
use Rattle.grammar.specs.Writing.{is_word_symbol, is_word, is_comparison, run_together, blank, written, Apart}
use Rattle.grammar.proofs.Plainer.{is_not, behind_not, gap, spaced, All, plainer}
use Rattle.grammar.proofs.PlainForm.{same_rules, plain_again}
use Rattle.grammar.proofs.Apart.{program_apart}

-- ---- in a program a blank is needed behind `not` only

or_false : (a : Bool) → a || false ≡ false → a ≡ false
or_false true h = h
or_false false h = refl

behind_last : (b : Bool) → behind_not b [] ≡ []
unfolding behind_not
behind_last true = refl
behind_last false = refl

last_gap : (t : Token) → gap t [] ≡ []
unfolding gap
last_gap (name b) = refl
last_gap (variable b) = refl
last_gap (string b) = refl
last_gap (number n) = refl
last_gap (comparison r) = refl
last_gap (symbol s) = behind_last (is_not s)
last_gap (stray b) = refl

-- where two tokens do not run together
no_gap : (t u : Token) (us : List Token) → run_together t u ≡ false → gap t (u ∷ us) ≡ []
unfolding gap behind_not is_not run_together is_word is_word_symbol is_comparison
no_gap (name b) u us h = refl
no_gap (variable b) u us h = refl
no_gap (string b) u us h = refl
no_gap (number n) u us h = refl
no_gap (comparison r) u us h = refl
no_gap (symbol underscore) u us h = refl
no_gap (symbol not) u us h = rw (or_false (is_word u) h)
no_gap (symbol minus) u us h = refl
no_gap (symbol opening) u us h = refl
no_gap (symbol closing) u us h = refl
no_gap (symbol comma) u us h = refl
no_gap (symbol dot) u us h = refl
no_gap (symbol :-) u us h = refl
no_gap (symbol plus) u us h = refl
no_gap (symbol times) u us h = refl
no_gap (symbol bar) u us h = refl
no_gap (stray b) u us h = refl

same_blank : (t u : Token) (us : List Token) → (run_together t u ≡ false) ⊎ ((b : Bytes) × (t ≡ symbol not) × (u ≡ name b)) → blank t (u ∷ us) ≡ gap t (u ∷ us)
unfolding blank gap behind_not is_not run_together is_word is_word_symbol
same_blank t u us (inl h) = rw (h, no_gap t u us h)
same_blank t u us (inr (b, e, f)) = rw (e, f)

written_spaced : (ts : List Token) → Apart ts → written ts ≡ spaced ts
unfolding written spaced blank
written_spaced [] h = refl
written_spaced (t ∷ []) h = rw (last_gap t)
written_spaced (t ∷ u ∷ us) h = rw (same_blank t u us h.0, written_spaced (u ∷ us) h.1)

-- ---- the statements

module _ {ground : Bool} (c : Program ground) where
  -- it is read as the plain tree, where the tree keeps the sizes
  pub plain_reads : {P : Type 0} (end : P) (ts : List (Placed P Token)) → unplaced ts ≡ tokens (spell (plain_form c)) → Within (language ground) [] (spell c) → Reading (language ground) end ts (tree (plain_form c))
  plain_reads end ts e w = read (plain_form c) (inv e) ((plainer c).within [] w)

  -- so as the same rules
  pub plain_same : rules_for (plain_form c) ≡ rules_for c
  plain_same = same_rules c

  -- writing it again changes nothing
  pub plain_twice : plain_form (plain_form c) ≡ plain_form c
  plain_twice = plain_again c

  -- it has no more tokens, and is written in no more bytes
  pub plain_fewer : length (spell (plain_form c)) ≤ length (spell c)
  plain_fewer = (plainer c).fewer

  pub plain_shorter : length (written (tokens (spell (plain_form c)))) ≤ length (written (tokens (spell c)))
  plain_shorter = rw (written_spaced (tokens (spell (plain_form c))) (program_apart (plain_form c)), written_spaced (tokens (spell c)) (program_apart c)) (simp append-nil at ((plainer c).shorter [] [] (le_refl _)))

  -- every token of it is one of the tree's, or `!=`
  pub plain_kept : (P : Token → Type 0) → P (comparison (sign unequal)) → All P (tokens (spell c)) → All P (tokens (spell (plain_form c)))
  plain_kept P e h = (plainer c).kept P e h

  -- only between `not` and a name is a blank needed
  pub plain_apart : Apart (tokens (spell (plain_form c)))
  plain_apart = program_apart (plain_form c)
