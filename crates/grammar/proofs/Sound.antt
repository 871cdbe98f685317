-- What has been read on the way to a state is what its part of the tree spells: each step adds its token.
use mathlib.Core.Path.{◌≡◌, refl, sym as inv, ◌∙◌}
use mathlib.Core.Bool.{Bool, true, false}
use mathlib.Core.Option.{some}
use mathlib.Core.List.{List, ◌++◌, append_assoc, append-nil}
use Prim.Native.Nat.{suc}
use Rattle.reading.specs.Reading.{◌at◌, ◌▹◌}
use Rattle.reading.specs.Machine.{Step}
use Rattle.meaning.specs.Rules.{Bytes}
use Rattle.grammar.specs.Tokens.{not, minus, opening, bar, Token, symbol, comparison}
use Rattle.grammar.specs.Trees.{empty, count, Term, bare, Atom, atom, Literal, positive, negated, compared, computed, Heads, head, also, Program}
use Rattle.grammar.specs.Spelling.{Mark, inside, rule, Spelling, mere, with_commas, spell_term, spell_argument, spell_arguments, spell_signed, spell_atom, spell_operation, spell_compared, spell_literal, spell_nth_literal, spell_heads, spell_head, spell_rule, spell}
use Rattle.grammar.specs.Moves.{Move}
use Rattle.grammar.specs.States.{BodyContext, AtomContext, head_behind, head_after, literal_in, not_in, TermContext, argument_in, left_in, right_in, operand_in, State, atom_wanted, atom_minus, named, opened, closed, term_wanted, term_minus, term_read, atom_mark, term_mark}
use Rattle.grammar.specs.Machine.{after_literal, after_heads, after_atom, after_term, else_wanted, else_minus, else_named, a_term, moves, step}
use Rattle.grammar.proofs.Moves.{OnMove, OnMoves, on_append, on_free, try_all}

-- the tokens before a literal, an atom, a term
unfoldable pub before_literal : {ground : Bool} → BodyContext ground → Spelling
before_literal c = spell c.rules ++ spell_head (rule (suc (count c.rules))) c.head ++ with_commas spell_nth_literal c.literals

unfoldable pub before_atom : {ground : Bool} → AtomContext ground → Spelling
before_atom (head_behind p) = spell p
before_atom (head_after u p hs) = spell p ++ spell_heads (rule (suc (count p))) hs ▹ mere bar
before_atom (literal_in c) = before_literal c
before_atom (not_in c) = before_literal c ▹ (symbol not at atom_mark (literal_in c))

unfoldable pub before_term : {ground : Bool} → TermContext ground → Spelling
before_term (argument_in a s b ts) = before_atom a ++ spell_signed (atom_mark a) s b ▹ mere opening ++ with_commas spell_argument ts
before_term (left_in c) = before_literal c
before_term (right_in c t r) = before_literal c ++ spell_term (atom_mark (literal_in c)) t ▹ (comparison r at inside)
before_term (operand_in c t r u o) = before_literal c ++ spell_compared (atom_mark (literal_in c)) t r u ▹ mere (spell_operation o)

-- the tokens read on the way to a state
unfoldable pub spelled : {ground : Bool} → State ground → Spelling
spelled (atom_wanted a) = before_atom a
spelled (atom_minus a) = before_atom a ▹ (symbol minus at atom_mark a)
spelled (named a s b) = before_atom a ++ spell_signed (atom_mark a) s b
spelled (opened a s b) = before_atom a ++ spell_signed (atom_mark a) s b ▹ mere opening
spelled (closed a x) = before_atom a ++ spell_atom (atom_mark a) x
spelled (term_wanted h) = before_term h
spelled (term_minus h) = before_term h ▹ (symbol minus at term_mark h)
spelled (term_read h t) = before_term h ++ spell_term (term_mark h) t

abbrev pub Adds : {ground : Bool} → State ground → Token → Step (State ground) Mark → Type 0
Adds s t x = spelled x.state ≡ spelled s ▹ (t at x.mark)

abbrev Sound : {ground : Bool} → State ground → List (Move (State ground)) → Type 0
Sound s ms = OnMoves (Adds s) ms

module _ {ground : Bool} where
  after_literal_sound : (s : State ground) (c : BodyContext ground) (l : Literal ground) → spelled s ≡ before_literal c ++ spell_literal (atom_mark (literal_in c)) l → Sound s (after_literal c l)
  unfolding OnMoves OnMove after_literal spelled before_atom before_literal with_commas spell spell_rule atom_mark
  after_literal_sound s c l e = (rw e (simp append_assoc), (rw e (simp append_assoc), tt))

  after_heads_sound : (s : State ground) (p : Program ground) (hs : Heads ground) → spelled s ≡ spell p ++ spell_heads (rule (suc (count p))) hs → Sound s (after_heads p hs)
  unfolding OnMoves OnMove after_heads spelled before_atom before_literal spell spell_rule spell_head with_commas
  after_heads_sound s p hs e = (rw e (simp append_assoc), on_free (Adds s) ground _ (λ u. (rw e (simp (append_assoc, append-nil)), (rw e, tt))))

  after_atom_sound : (s : State ground) (a : AtomContext ground) (x : Atom ground) → spelled s ≡ before_atom a ++ spell_atom (atom_mark a) x → Sound s (after_atom a x)
  unfolding after_atom before_atom atom_mark spell_literal spell_heads
  after_atom_sound s (head_behind p) x e = after_heads_sound s p (head x) e
  after_atom_sound s (head_after u p hs) x e = after_heads_sound s p (also u hs x) (e ∙ simp append_assoc)
  after_atom_sound s (literal_in c) x e = after_literal_sound s c (positive x) e
  after_atom_sound s (not_in c) x e = after_literal_sound s c (negated x) (e ∙ simp append_assoc)

  after_term_sound : (s : State ground) (h : TermContext ground) (t : Term ground) → spelled s ≡ before_term h ++ spell_term (term_mark h) t → Sound s (after_term h t)
  unfolding OnMoves OnMove after_term spelled before_term term_mark with_commas spell_atom spell_arguments spell_compared spell_operation spell_literal
  after_term_sound z (argument_in a s b ts) t e = (rw e (simp append_assoc), (rw e (simp append_assoc), tt))
  after_term_sound z (left_in c) t e = ((λ r. rw e), tt)
  after_term_sound z (right_in c t r) u e = (rw e (simp append_assoc), (rw e (simp append_assoc), (rw e (simp append_assoc), after_literal_sound z c (compared t r u) (e ∙ simp append_assoc))))
  after_term_sound z (operand_in c t r u o) v e = after_literal_sound z c (computed t r u o v) (e ∙ simp append_assoc)

  a_term_sound : (s : State ground) (h : TermContext ground) → spelled s ≡ before_term h → Sound s (a_term h)
  unfolding OnMoves OnMove a_term spelled spell_term
  a_term_sound s h e = ((λ b. rw e), ((λ b. rw e), ((λ n. rw e), (rw e, on_free (Adds s) ground _ (λ u. ((λ b. rw e), (rw e, tt)))))))

  else_wanted_sound : (a : AtomContext ground) → Sound (atom_wanted a) (else_wanted a)
  unfolding OnMoves OnMove else_wanted spelled before_atom before_term before_literal atom_mark term_mark spell_term spell_head with_commas
  else_wanted_sound (head_behind p) = on_free (Adds (atom_wanted (head_behind p))) ground _ (λ u. (append-nil _, tt))
  else_wanted_sound (head_after u p hs) = tt
  else_wanted_sound (literal_in c) = ((λ b. refl), ((λ b. refl), ((λ n. refl), (refl, (refl, tt)))))
  else_wanted_sound (not_in c) = tt

  else_minus_sound : (a : AtomContext ground) → Sound (atom_minus a) (else_minus a)
  unfolding OnMoves OnMove else_minus spelled before_atom before_term atom_mark term_mark spell_term
  else_minus_sound (head_behind p) = tt
  else_minus_sound (head_after u p hs) = tt
  else_minus_sound (literal_in c) = ((λ n. simp append_assoc), tt)
  else_minus_sound (not_in c) = tt

  else_named_sound : (a : AtomContext ground) (s : Bool) (b : Bytes) → Sound (named a s b) (else_named a s b)
  unfolding OnMoves OnMove else_named spelled before_atom before_term atom_mark spell_term spell_signed
  else_named_sound (head_behind p) s b = tt
  else_named_sound (head_after u p hs) s b = tt
  else_named_sound (literal_in c) true b = tt
  else_named_sound (literal_in c) false b = ((λ r. refl), tt)
  else_named_sound (not_in c) s b = tt

  sound : (s : State ground) → Sound s (moves s)
  unfolding OnMoves OnMove moves spelled before_term spell_signed spell_term spell_atom spell_arguments with_commas
  sound (atom_wanted a) = ((λ b. refl), (refl, else_wanted_sound a))
  sound (atom_minus a) = ((λ b. simp append_assoc), else_minus_sound a)
  sound (named a s b) = (refl, on_append (Adds (named a s b)) (else_named a s b) _ (else_named_sound a s b) (after_atom_sound (named a s b) a (atom s b bare) (simp append-nil)))
  sound (opened a s b) = (simp append_assoc, a_term_sound (opened a s b) (argument_in a s b empty) (inv (append-nil _)))
  sound (closed a x) = after_atom_sound (closed a x) a x refl
  sound (term_wanted h) = a_term_sound (term_wanted h) h refl
  sound (term_minus h) = ((λ n. simp append_assoc), tt)
  sound (term_read h t) = after_term_sound (term_read h t) h t refl

  pub step_adds : (s : State ground) (t : Token) (x : Step (State ground) Mark) → step s t ≡ some x → Adds s t x
  unfolding step
  step_adds s t x h = try_all (Adds s) (moves s) t x (sound s) h
