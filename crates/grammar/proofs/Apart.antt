-- In a program no two tokens stand side by side that would run together, but `not` and a name: each state knows what its last token may be.
use mathlib.Core.Path.{◌≡◌, refl, sym as inv, ◌∙◌}
use mathlib.Core.Logic.{◌⊎◌, inl, inr}
use mathlib.Core.Bool.{Bool, true, false}
use mathlib.Core.Option.{Option, none, some}
use mathlib.Core.List.{List, [], ◌∷◌}
use Rattle.reading.specs.Reading.{tokens}
use Rattle.reading.specs.Machine.{Step, run}
use Rattle.reading.proofs.Lists.{none_some}
use Rattle.meaning.specs.Rules.{Bytes}
use Rattle.grammar.specs.Tokens.{Symbol, underscore, not, minus, opening, closing, comma, dot, :-, plus, times, bar, Token, name, variable, string, number, comparison, symbol, stray}
use Rattle.grammar.specs.Trees.{empty, Term, bare, Atom, atom, Literal, positive, negated, compared, computed, Heads, head, also, Program}
use Rattle.grammar.specs.Spelling.{Mark, spell}
use Rattle.grammar.specs.Writing.{is_word_symbol, is_word, is_comparison, run_together, Apart}
use Rattle.grammar.specs.States.{BodyContext, AtomContext, head_behind, head_after, literal_in, not_in, TermContext, argument_in, left_in, right_in, operand_in, State, atom_wanted, atom_minus, named, opened, closed, term_wanted, term_minus, term_read}
use Rattle.grammar.specs.Machine.{after_literal, after_heads, after_atom, after_term, else_wanted, else_minus, else_named, a_term, moves, step, machine}
use Rattle.grammar.proofs.Moves.{OnMove, OnMoves, on_append, on_free, try_all}
use Rattle.grammar.proofs.Complete.{complete}

-- ---- the last token: `not`, another word, or no word

data Last : Type 0 where
  a_not a_word no_word : Last

symbol_last : Symbol → Last
symbol_last underscore = a_word
symbol_last not = a_not
symbol_last minus = no_word
symbol_last opening = no_word
symbol_last closing = no_word
symbol_last comma = no_word
symbol_last dot = no_word
symbol_last :- = no_word
symbol_last plus = no_word
symbol_last times = no_word
symbol_last bar = no_word

token_last : Token → Last
token_last (name b) = a_word
token_last (variable b) = a_word
token_last (string b) = a_word
token_last (number n) = a_word
token_last (comparison r) = no_word
token_last (symbol s) = symbol_last s
token_last (stray b) = no_word

atom_last : {ground : Bool} → AtomContext ground → Last
atom_last (head_behind p) = no_word
atom_last (head_after u p hs) = no_word
atom_last (literal_in c) = no_word
atom_last (not_in c) = a_not

state_last : {ground : Bool} → State ground → Last
state_last (atom_wanted a) = atom_last a
state_last (atom_minus a) = no_word
state_last (named a s b) = a_word
state_last (opened a s b) = no_word
state_last (closed a x) = no_word
state_last (term_wanted h) = no_word
state_last (term_minus h) = no_word
state_last (term_read h t) = a_word

-- what may follow
abbrev May : Last → Token → Type 0
May a_not t = (is_word t ≡ false) ⊎ ((b : Bytes) × (t ≡ name b))
May a_word t = is_word t ≡ false
May no_word t = is_comparison t ≡ false

-- so two tokens run together only if they are `not` and a name
apart : (p t : Token) → May (token_last p) t → (run_together p t ≡ false) ⊎ ((b : Bytes) × (p ≡ symbol not) × (t ≡ name b))
unfolding token_last symbol_last run_together is_word is_word_symbol is_comparison
apart (name b) t h = inl (rw h)
apart (variable b) t h = inl (rw h)
apart (string b) t h = inl refl
apart (number n) t h = inl (rw h)
apart (comparison r) t h = inl (rw h)
apart (symbol underscore) t h = inl (rw h)
apart (symbol not) t (inl h) = inl (rw h)
apart (symbol not) t (inr h) = inr (h.0, refl, h.1)
apart (symbol minus) t h = inl refl
apart (symbol opening) t h = inl refl
apart (symbol closing) t h = inl refl
apart (symbol comma) t h = inl refl
apart (symbol dot) t h = inl refl
apart (symbol :-) t h = inl refl
apart (symbol plus) t h = inl refl
apart (symbol times) t h = inl refl
apart (symbol bar) t h = inl refl
apart (stray b) t h = inl refl

pub behind_nothing : (t : Token) (ts : List Token) → Apart (t ∷ ts) → Apart ts
behind_nothing t [] h = tt
behind_nothing t (u ∷ ts) h = h.1

-- ---- every move keeps to it

abbrev Keeps : {ground : Bool} → Last → Token → Step (State ground) Mark → Type 0
Keeps l t x = (state_last x.state ≡ token_last t) × May l t

-- a symbol that is no word may follow anything
mark : (l : Last) (s : Symbol) → is_word_symbol s ≡ false → May l (symbol s)
unfolding is_word is_comparison
mark a_not s h = inl h
mark a_word s h = h
mark no_word s h = refl

module _ {ground : Bool} where
  keeps_literal : (l : Last) (c : BodyContext ground) (x : Literal ground) → OnMoves (Keeps l) (after_literal c x)
  unfolding OnMoves OnMove after_literal state_last atom_last token_last symbol_last is_word_symbol
  keeps_literal l c x = ((refl, mark l comma refl), ((refl, mark l dot refl), tt))

  keeps_heads : (l : Last) (p : Program ground) (hs : Heads ground) → OnMoves (Keeps l) (after_heads p hs)
  unfolding OnMoves OnMove after_heads state_last atom_last token_last symbol_last is_word_symbol
  keeps_heads l p hs = ((refl, mark l dot refl), on_free (Keeps l) ground _ (λ u. ((refl, mark l :- refl), ((refl, mark l bar refl), tt))))

  keeps_atom : (l : Last) (a : AtomContext ground) (x : Atom ground) → OnMoves (Keeps l) (after_atom a x)
  unfolding after_atom
  keeps_atom l (head_behind p) x = keeps_heads l p (head x)
  keeps_atom l (head_after u p hs) x = keeps_heads l p (also u hs x)
  keeps_atom l (literal_in c) x = keeps_literal l c (positive x)
  keeps_atom l (not_in c) x = keeps_literal l c (negated x)

  keeps_term : (h : TermContext ground) (t : Term ground) → OnMoves (Keeps a_word) (after_term h t)
  unfolding OnMoves OnMove after_term state_last token_last symbol_last is_word is_word_symbol
  keeps_term (argument_in a s b ts) t = ((refl, refl), ((refl, refl), tt))
  keeps_term (left_in c) t = ((λ r. (refl, refl)), tt)
  keeps_term (right_in c t r) u = ((refl, refl), ((refl, refl), ((refl, refl), keeps_literal a_word c (compared t r u))))
  keeps_term (operand_in c t r u o) v = keeps_literal a_word c (computed t r u o v)

  keeps_wanted : (h : TermContext ground) → OnMoves (Keeps no_word) (a_term h)
  unfolding OnMoves OnMove a_term state_last token_last symbol_last is_comparison
  keeps_wanted h = ((λ b. (refl, refl)), ((λ b. (refl, refl)), ((λ n. (refl, refl)), ((refl, refl), on_free (Keeps no_word) ground _ (λ u. ((λ b. (refl, refl)), ((refl, refl), tt)))))))

  keeps_else : (a : AtomContext ground) → OnMoves (Keeps (atom_last a)) (else_wanted a)
  unfolding OnMoves OnMove else_wanted state_last atom_last token_last symbol_last is_comparison
  keeps_else (head_behind p) = on_free (Keeps no_word) ground _ (λ u. ((refl, refl), tt))
  keeps_else (head_after u p hs) = tt
  keeps_else (literal_in c) = ((λ b. (refl, refl)), ((λ b. (refl, refl)), ((λ n. (refl, refl)), ((refl, refl), ((refl, refl), tt)))))
  keeps_else (not_in c) = tt

  keeps_name : (a : AtomContext ground) (b : Bytes) → May (atom_last a) (name b)
  unfolding atom_last is_comparison
  keeps_name (head_behind p) b = refl
  keeps_name (head_after u p hs) b = refl
  keeps_name (literal_in c) b = refl
  keeps_name (not_in c) b = inr (b, refl)

  keeps_minus : (a : AtomContext ground) → OnMoves (Keeps no_word) (else_minus a)
  unfolding OnMoves OnMove else_minus state_last token_last is_comparison
  keeps_minus (head_behind p) = tt
  keeps_minus (head_after u p hs) = tt
  keeps_minus (literal_in c) = ((λ n. (refl, refl)), tt)
  keeps_minus (not_in c) = tt

  keeps_named : (a : AtomContext ground) (s : Bool) (b : Bytes) → OnMoves (Keeps a_word) (else_named a s b)
  unfolding OnMoves OnMove else_named state_last token_last is_word
  keeps_named (head_behind p) s b = tt
  keeps_named (head_after u p hs) s b = tt
  keeps_named (literal_in c) true b = tt
  keeps_named (literal_in c) false b = ((λ r. (refl, refl)), tt)
  keeps_named (not_in c) s b = tt

  keeps : (s : State ground) → OnMoves (Keeps (state_last s)) (moves s)
  unfolding OnMoves OnMove moves state_last token_last symbol_last is_word is_word_symbol is_comparison
  keeps (atom_wanted a) = ((λ b. (refl, keeps_name a b)), ((refl, mark (atom_last a) minus refl), keeps_else a))
  keeps (atom_minus a) = ((λ b. (refl, refl)), keeps_minus a)
  keeps (named a s b) = ((refl, refl), on_append (Keeps a_word) (else_named a s b) _ (keeps_named a s b) (keeps_atom a_word a (atom s b bare)))
  keeps (opened a s b) = ((refl, refl), keeps_wanted (argument_in a s b empty))
  keeps (closed a x) = keeps_atom no_word a x
  keeps (term_wanted h) = keeps_wanted h
  keeps (term_minus h) = ((λ n. (refl, refl)), tt)
  keeps (term_read h t) = keeps_term h t

  step_keeps : (s : State ground) (t : Token) (x : Step (State ground) Mark) → step s t ≡ some x → Keeps (state_last s) t x
  unfolding step
  step_keeps s t x h = try_all (Keeps (state_last s)) (moves s) t x (keeps s) h

  run_apart : (ts : List Token) (s : State ground) (p : Token) (s' : State ground) → state_last s ≡ token_last p → run (machine ground) s ts ≡ some s' → Apart (p ∷ ts)
  unfolding run
  run_apart [] s p s' e h = tt
  run_apart (t ∷ ts) s p s' e h = go (step s t) refl (λ x f k. run_apart ts x.state t s' f k)
    where
      go : (o : Option (Step (State ground) Mark)) → step s t ≡ o → ((x : Step (State ground) Mark) → state_last x.state ≡ token_last t → run (machine ground) x.state ts ≡ some s' → Apart (t ∷ ts)) → Apart (p ∷ t ∷ ts)
      go none q rec = absurd (none_some {a = s'} (inv (rw (q, run)) ∙ h))
      go (some x) q rec = let k = step_keeps s t x q in (apart p t (rw e at k.1), rec x k.0 (inv (rw (q, run)) ∙ h))

  pub program_apart : (p : Program ground) → Apart (tokens (spell p))
  unfolding state_last atom_last token_last symbol_last
  program_apart p = behind_nothing (symbol dot) (tokens (spell p)) (run_apart (tokens (spell p)) (atom_wanted (head_behind empty)) (symbol dot) (atom_wanted (head_behind p)) refl (complete p))
