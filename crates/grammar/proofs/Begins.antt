-- From every state some tree can still be reached.
use mathlib.Core.Path.{◌≡◌, refl, sym as inv, ap, ◌∙◌}
use mathlib.Core.Bool.{Bool, true, false}
use mathlib.Core.Option.{some}
use mathlib.Core.List.{[], ◌∷◌, append_assoc, append-nil}
use Rattle.reading.specs.Reading.{◌at◌, Begins}
use Rattle.reading.specs.Machine.{Step}
use Rattle.reading.proofs.Lists.{none_some, some_inj}
use Rattle.meaning.specs.Domain.{equal}
use Rattle.meaning.specs.Rules.{Bytes}
use Rattle.grammar.specs.Tokens.{sign, opening, closing, dot, Token, name, number, comparison, symbol}
use Rattle.grammar.specs.Trees.{Term, parentheses, arguments, Atom, atom, Program}
use Rattle.grammar.specs.Spelling.{Mark, spell}
use Rattle.grammar.specs.Sizes.{language}
use Rattle.grammar.specs.Moves.{when, fire, either, try, symbol_number}
use Rattle.grammar.specs.States.{AtomContext, head_behind, head_after, literal_in, not_in, TermContext, argument_in, left_in, right_in, operand_in, State, atom_wanted, atom_minus, named, opened, closed, term_wanted, term_minus, term_read}
use Rattle.grammar.specs.Machine.{after_literal, after_heads, after_atom, after_term, a_term, moves, step, finished, finished_atom}
use Rattle.grammar.proofs.Sound.{before_atom, spelled, step_adds}

module _ {ground : Bool} where
  -- a beginning of what was read behind one more token
  back : (s : State ground) (t : Token) (x : Step (State ground) Mark) → step s t ≡ some x → Begins (language ground) (spelled x.state) → Begins (language ground) (spelled s)
  back s t x e (c, v, q) = (c, (t at x.mark) ∷ v, q ∙ rw (step_adds s t x e) (simp append_assoc))

  program_begins : (p : Program ground) → Begins (language ground) (spelled (atom_wanted (head_behind p)))
  unfolding spelled before_atom
  program_begins p = (p, [], inv (append-nil (spell p)))

  closed_begins : (a : AtomContext ground) (x : Atom ground) → Begins (language ground) (spelled (closed a x))
  unfolding step moves try fire either when symbol_number after_atom after_heads after_literal
  closed_begins (head_behind p) x = back (closed (head_behind p) x) (symbol dot) _ refl (program_begins _)
  closed_begins (head_after u p hs) x = back (closed (head_after u p hs) x) (symbol dot) _ refl (program_begins _)
  closed_begins (literal_in c) x = back (closed (literal_in c) x) (symbol dot) _ refl (program_begins _)
  closed_begins (not_in c) x = back (closed (not_in c) x) (symbol dot) _ refl (program_begins _)

  opened_begins : (a : AtomContext ground) (s : Bool) (b : Bytes) → Begins (language ground) (spelled (opened a s b))
  unfolding step moves try fire either when symbol_number
  opened_begins a s b = back (opened a s b) (symbol closing) _ refl (closed_begins a (atom s b parentheses))

  named_begins : (a : AtomContext ground) (s : Bool) (b : Bytes) → Begins (language ground) (spelled (named a s b))
  unfolding step moves try fire either when symbol_number
  named_begins a s b = back (named a s b) (symbol opening) _ refl (opened_begins a s b)

  read_begins : (h : TermContext ground) (t : Term ground) → Begins (language ground) (spelled (term_read h t))
  unfolding step moves try fire either when symbol_number after_term after_literal a_term
  read_begins (argument_in a s b ts) t = back (term_read (argument_in a s b ts) t) (symbol closing) _ refl (closed_begins a (atom s b (arguments ts t)))
  read_begins (left_in c) t = back (term_read (left_in c) t) (comparison (sign equal)) _ refl (back (term_wanted (right_in c t (sign equal))) (number 0) _ refl (back (term_read (right_in c t (sign equal)) (Term.number 0)) (symbol dot) _ refl (program_begins _)))
  read_begins (right_in c t r) u = back (term_read (right_in c t r) u) (symbol dot) _ refl (program_begins _)
  read_begins (operand_in c t r u o) v = back (term_read (operand_in c t r u o) v) (symbol dot) _ refl (program_begins _)

  pub begins : (s : State ground) → Begins (language ground) (spelled s)
  unfolding step moves try fire either when symbol_number a_term
  begins (atom_wanted a) = back (atom_wanted a) (name []) _ refl (named_begins a false [])
  begins (atom_minus a) = back (atom_minus a) (name []) _ refl (named_begins a true [])
  begins (named a s b) = named_begins a s b
  begins (opened a s b) = opened_begins a s b
  begins (closed a x) = closed_begins a x
  begins (term_wanted h) = back (term_wanted h) (number 0) _ refl (read_begins h (Term.number 0))
  begins (term_minus h) = back (term_minus h) (number 0) _ refl (read_begins h (Term.negative 0))
  begins (term_read h t) = read_begins h t

  pub finish : (s : State ground) (p : Program ground) → finished s ≡ some p → spelled s ≡ spell p
  unfolding finished finished_atom spelled before_atom
  finish (atom_wanted (head_behind q)) p k = ap spell (some_inj k)
  finish (atom_wanted (head_after u r hs)) p k = absurd (none_some k)
  finish (atom_wanted (literal_in c)) p k = absurd (none_some k)
  finish (atom_wanted (not_in c)) p k = absurd (none_some k)
  finish (atom_minus a) p k = absurd (none_some k)
  finish (named a s b) p k = absurd (none_some k)
  finish (opened a s b) p k = absurd (none_some k)
  finish (closed a x) p k = absurd (none_some k)
  finish (term_wanted h) p k = absurd (none_some k)
  finish (term_minus h) p k = absurd (none_some k)
  finish (term_read h t) p k = absurd (none_some k)
