-- On the spelling of a tree the machine ends with that tree.
use mathlib.Core.Path.{◌≡◌, refl, ap, ◌∙◌}
use mathlib.Core.Bool.{Bool, true, false}
use mathlib.Core.Option.{Option, none, some}
use mathlib.Core.List.{List, [], ◌∷◌, ◌++◌, append_assoc, append-nil}
use Prim.Native.Nat.{suc}
use lib.Dec.{eqb}
use Rattle.reading.specs.Reading.{Marked, ◌at◌, ◌▹◌, tokens}
use Rattle.reading.specs.Machine.{Step, run}
use Rattle.reading.proofs.Traces.{Leads, leads_append}
use Rattle.meaning.specs.Domain.{Operation}
use Rattle.meaning.specs.Rules.{Bytes}
use Rattle.grammar.specs.Tokens.{Sign, Symbol, not, opening, closing, comma, dot, :-, bar, Token, comparison, symbol}
use Rattle.grammar.specs.Trees.{Free, Sequence, empty, ◌then◌, count, Term, name, variable, string, number, negative, anonymous, Arguments, bare, parentheses, arguments, Atom, atom, Literal, positive, negated, compared, computed, Heads, head, also, Rule, fact, clause, Program}
use Rattle.grammar.specs.Spelling.{Mark, inside, Spelling, mere, with_commas, spell_term, spell_argument, spell_arguments, spell_signed, spell_atom, spell_operation, spell_compared, spell_literal, spell_nth_literal, spell_heads, spell_head, spell_rule, spell}
use Rattle.grammar.specs.Moves.{when, fire, either, try, symbol_number}
use Rattle.grammar.specs.States.{BodyContext, AtomContext, head_behind, head_after, literal_in, not_in, TermContext, argument_in, right_in, operand_in, State, atom_wanted, named, opened, closed, term_wanted, term_read}
use Rattle.grammar.specs.Machine.{new_body, with_literal, with_rule, after_literal, after_heads, after_atom, after_term, else_wanted, else_minus, else_named, a_term, moves, step, machine}
use Rattle.grammar.proofs.Moves.{free_try}

-- a comma or a dot
separator : Bool → Symbol
separator true = comma
separator false = dot

free_same : (ground : Bool) (u v : Free ground) → u ≡ v
free_same true u v = absurd u
free_same false u v = refl

module _ {ground : Bool} where
  abbrev Lead : State ground → Spelling → State ground → Type 0
  Lead s ps s' = Leads (machine ground) s ps s'

  join : {s s' s'' : State ground} (l m : Spelling) → Lead s l s' → Lead s' m s'' → Lead s (l ++ m) s''
  join l m g h = leads_append (machine ground) l m g h

  one : (s : State ground) (p : Marked Token Mark) (x : Step (State ground) Mark) → step s p.token ≡ some x → Lead s (p ∷ []) x.state
  unfolding run tokens
  one s p x e = record { via = λ r. rw (e, run) }

  -- ---- terms

  term_leads : (t : Term ground) (h : TermContext ground) (m : Mark) → Lead (term_wanted h) (spell_term m t) (term_read h t)
  unfolding run step moves try fire either when symbol_number tokens a_term spell_term
  term_leads (name b) h m = record { via = λ r. refl }
  term_leads (variable u b) h m = one (term_wanted h) _ _ (free_try ground _ u _)
  term_leads (string b) h m = record { via = λ r. refl }
  term_leads (number n) h m = record { via = λ r. refl }
  term_leads (negative n) h m = record { via = λ r. refl }
  term_leads (anonymous u) h m = one (term_wanted h) _ _ (free_try ground _ u _)

  -- behind an opening parenthesis a term is read as where a term is wanted
  first_term : (t : Term ground) (a : AtomContext ground) (s : Bool) (b : Bytes) (m : Mark) (r : List Token) → run (machine ground) (opened a s b) (tokens (spell_term m t) ++ r) ≡ run (machine ground) (term_wanted (argument_in a s b empty)) (tokens (spell_term m t) ++ r)
  unfolding run step moves try fire either when symbol_number tokens a_term spell_term
  first_term (name b') a s b m r = refl
  first_term (variable u b') a s b m r = refl
  first_term (string b') a s b m r = refl
  first_term (number n) a s b m r = refl
  first_term (negative n) a s b m r = refl
  first_term (anonymous u) a s b m r = refl

  -- ---- atoms

  comma_leads : (a : AtomContext ground) (s : Bool) (b : Bytes) (ts : Sequence (Term ground)) (t : Term ground) → Lead (term_read (argument_in a s b ts) t) (mere comma ∷ []) (term_wanted (argument_in a s b (ts then t)))
  unfolding run step moves try fire either when symbol_number tokens after_term
  comma_leads a s b ts t = record { via = λ r. refl }

  terms_lead : (ts : Sequence (Term ground)) (t : Term ground) (a : AtomContext ground) (s : Bool) (b : Bytes) → Lead (opened a s b) (with_commas spell_argument ts ++ spell_argument (suc (count ts)) t) (term_read (argument_in a s b ts) t)
  unfolding with_commas
  terms_lead empty t a s b = record { via = λ r. first_term t a s b _ r ∙ (term_leads t (argument_in a s b empty) _).via r }
  terms_lead (ts then t') t a s b = join _ _ (join _ (mere comma ∷ []) (terms_lead ts t' a s b) (comma_leads a s b ts t')) (term_leads t (argument_in a s b (ts then t')) _)

  -- the state behind an atom
  behind : AtomContext ground → Atom ground → State ground
  behind a (atom s b bare) = named a s b
  behind a (atom s b parentheses) = closed a (atom s b parentheses)
  behind a (atom s b (arguments ts t)) = closed a (atom s b (arguments ts t))

  signed_leads : (a : AtomContext ground) (m : Mark) (s : Bool) (b : Bytes) → Lead (atom_wanted a) (spell_signed m s b) (named a s b)
  unfolding run step moves try fire either when symbol_number tokens spell_signed
  signed_leads a m true b = record { via = λ r. refl }
  signed_leads a m false b = record { via = λ r. refl }

  opening_leads : (a : AtomContext ground) (s : Bool) (b : Bytes) → Lead (named a s b) (mere opening ∷ []) (opened a s b)
  unfolding run step moves try fire either when symbol_number tokens
  opening_leads a s b = record { via = λ r. refl }

  closing_leads : (a : AtomContext ground) (s : Bool) (b : Bytes) (ts : Sequence (Term ground)) (t : Term ground) → Lead (term_read (argument_in a s b ts) t) (mere closing ∷ []) (closed a (atom s b (arguments ts t)))
  unfolding run step moves try fire either when symbol_number tokens after_term
  closing_leads a s b ts t = record { via = λ r. refl }

  arguments_lead : (xs : Arguments ground) (a : AtomContext ground) (s : Bool) (b : Bytes) → Lead (named a s b) (spell_arguments xs) (behind a (atom s b xs))
  unfolding run step moves try fire either when symbol_number tokens spell_arguments behind
  arguments_lead bare a s b = record { via = λ r. refl }
  arguments_lead parentheses a s b = record { via = λ r. refl }
  arguments_lead (arguments ts t) a s b = join (mere opening ∷ []) (with_commas spell_argument ts ++ spell_argument (suc (count ts)) t ▹ mere closing) (opening_leads a s b) (join _ (mere closing ∷ []) (terms_lead ts t a s b) (closing_leads a s b ts t))

  atom_leads : (x : Atom ground) (a : AtomContext ground) (m : Mark) → Lead (atom_wanted a) (spell_atom m x) (behind a x)
  unfolding spell_atom
  atom_leads (atom s b xs) a m = join (spell_signed m s b) (spell_arguments xs) (signed_leads a m s b) (arguments_lead xs a s b)

  -- behind an atom a symbol other than an opening parenthesis goes on as the atom's context says
  behind_step : (a : AtomContext ground) (x : Atom ground) (z : Symbol) → eqb (symbol_number z) 5 ≡ false → step (behind a x) (symbol z) ≡ try (after_atom a x) (symbol z)
  unfolding step moves try fire either when symbol_number behind else_named
  behind_step (head_behind p) (atom s b bare) z h = rw h
  behind_step (head_after u p hs) (atom s b bare) z h = rw h
  behind_step (literal_in c) (atom true b bare) z h = rw h
  behind_step (literal_in c) (atom false b bare) z h = rw h
  behind_step (not_in c) (atom s b bare) z h = rw h
  behind_step a (atom s b parentheses) z h = refl
  behind_step a (atom s b (arguments ts t)) z h = refl

  -- ---- literals, each with the comma or dot behind it

  past : Bool → BodyContext ground → Literal ground → State ground
  past true c l = atom_wanted (literal_in (with_literal c l))
  past false c l = atom_wanted (head_behind (with_rule c l))

  literal_end : (e : Bool) (c : BodyContext ground) (l : Literal ground) (s : State ground) → step s (symbol (separator e)) ≡ try (after_literal c l) (symbol (separator e)) → Lead s (mere (separator e) ∷ []) (past e c l)
  unfolding try fire either when symbol_number after_literal separator past
  literal_end true c l s h = one s _ _ h
  literal_end false c l s h = one s _ _ h

  atom_end : (e : Bool) (c : BodyContext ground) (a : AtomContext ground) (l : Literal ground) (x : Atom ground) → after_atom a x ≡ after_literal c l → Lead (behind a x) (mere (separator e) ∷ []) (past e c l)
  unfolding symbol_number separator
  atom_end true c a l x h = literal_end true c l _ (behind_step a x comma refl ∙ ap (λ ms. try ms (symbol comma)) h)
  atom_end false c a l x h = literal_end false c l _ (behind_step a x dot refl ∙ ap (λ ms. try ms (symbol dot)) h)

  not_leads : (c : BodyContext ground) (m : Mark) → Lead (atom_wanted (literal_in c)) (symbol not at m ∷ []) (atom_wanted (not_in c))
  unfolding run step moves try fire either when symbol_number tokens else_wanted
  not_leads c m = record { via = λ r. refl }

  -- the left side of a comparison and its sign: a name begins as an atom does
  left_leads : (t : Term ground) (c : BodyContext ground) (m : Mark) (q : Sign) → Lead (atom_wanted (literal_in c)) (spell_term m t ▹ (comparison q at inside)) (term_wanted (right_in c t q))
  unfolding run step moves try fire either when symbol_number tokens after_term else_wanted else_minus else_named spell_term
  left_leads (name b) c m q = record { via = λ r. refl }
  left_leads (variable u b) c m q = rw (free_same ground u c.free) (record { via = λ r. refl })
  left_leads (string b) c m q = record { via = λ r. refl }
  left_leads (number n) c m q = record { via = λ r. refl }
  left_leads (negative n) c m q = record { via = λ r. refl }
  left_leads (anonymous u) c m q = rw (free_same ground u c.free) (record { via = λ r. refl })

  compared_leads : (t : Term ground) (q : Sign) (u : Term ground) (c : BodyContext ground) (m : Mark) → Lead (atom_wanted (literal_in c)) (spell_compared m t q u) (term_read (right_in c t q) u)
  unfolding spell_compared
  compared_leads t q u c m = rw (← (append_assoc (spell_term m t) (comparison q at inside ∷ []) (spell_term inside u))) (join _ (spell_term inside u) (left_leads t c m q) (term_leads u (right_in c t q) inside))

  operation_leads : (o : Operation) (c : BodyContext ground) (t : Term ground) (q : Sign) (u : Term ground) → Lead (term_read (right_in c t q) u) (mere (spell_operation o) ∷ []) (term_wanted (operand_in c t q u o))
  unfolding run step moves try fire either when symbol_number tokens after_term spell_operation
  operation_leads Operation.plus c t q u = record { via = λ r. refl }
  operation_leads Operation.minus c t q u = record { via = λ r. refl }
  operation_leads Operation.times c t q u = record { via = λ r. refl }

  term_end : (e : Bool) (c : BodyContext ground) (h : TermContext ground) (l : Literal ground) (t : Term ground) → try (after_term h t) (symbol (separator e)) ≡ try (after_literal c l) (symbol (separator e)) → Lead (term_read h t) (mere (separator e) ∷ []) (past e c l)
  unfolding step moves
  term_end e c h l t g = literal_end e c l (term_read h t) g

  right_end : (e : Bool) (c : BodyContext ground) (t : Term ground) (q : Sign) (u : Term ground) → try (after_term (right_in c t q) u) (symbol (separator e)) ≡ try (after_literal c (compared t q u)) (symbol (separator e))
  unfolding try fire either when symbol_number after_term separator
  right_end true c t q u = refl
  right_end false c t q u = refl

  literal_leads : (l : Literal ground) (e : Bool) (c : BodyContext ground) (m : Mark) → Lead (atom_wanted (literal_in c)) (spell_literal m l ▹ mere (separator e)) (past e c l)
  unfolding spell_literal after_atom after_term
  literal_leads (positive x) e c m = join (spell_atom m x) _ (atom_leads x (literal_in c) m) (atom_end e c (literal_in c) (positive x) x refl)
  literal_leads (negated x) e c m = join (symbol not at m ∷ spell_atom inside x) _ (join (symbol not at m ∷ []) (spell_atom inside x) (not_leads c m) (atom_leads x (not_in c) inside)) (atom_end e c (not_in c) (negated x) x refl)
  literal_leads (compared t q u) e c m = join (spell_compared m t q u) _ (compared_leads t q u c m) (term_end e c (right_in c t q) (compared t q u) u (right_end e c t q u))
  literal_leads (computed t q u o v) e c m = join _ _ (join (spell_compared m t q u) _ (compared_leads t q u c m) (join (mere (spell_operation o) ∷ []) (spell_term inside v) (operation_leads o c t q u) (term_leads v (operand_in c t q u o) inside))) (term_end e c (operand_in c t q u o) (computed t q u o v) v refl)

  -- ---- bodies, rules, programs

  literals_lead : (ls : Sequence (Literal ground)) (u : Free ground) (p : Program ground) (h : Option (Heads ground)) → Lead (atom_wanted (literal_in (new_body u p h))) (with_commas spell_nth_literal ls) (atom_wanted (literal_in (record { free = u; rules = p; head = h; literals = ls })))
  unfolding with_commas tokens past separator
  literals_lead empty u p h = record { via = λ r. refl }
  literals_lead (ls then l) u p h = rw (append_assoc (with_commas spell_nth_literal ls)) (join (with_commas spell_nth_literal ls) _ (literals_lead ls u p h) (literal_leads l true _ _))

  -- the state behind heads
  behind_heads : Program ground → Heads ground → State ground
  behind_heads p (head x) = behind (head_behind p) x
  behind_heads p (also u hs x) = behind (head_after u p hs) x

  heads_step : (p : Program ground) (hs : Heads ground) (z : Symbol) → eqb (symbol_number z) 5 ≡ false → step (behind_heads p hs) (symbol z) ≡ try (after_heads p hs) (symbol z)
  unfolding behind_heads after_atom
  heads_step p (head x) z h = behind_step (head_behind p) x z h
  heads_step p (also u hs x) z h = behind_step (head_after u p hs) x z h

  bar_leads : (p : Program ground) (hs : Heads ground) (u : Free ground) → Lead (behind_heads p hs) (mere bar ∷ []) (atom_wanted (head_after u p hs))
  unfolding try fire either when symbol_number after_heads
  bar_leads p hs u = one (behind_heads p hs) _ _ (heads_step p hs bar refl ∙ free_try ground _ u _)

  heads_lead : (hs : Heads ground) (p : Program ground) (m : Mark) → Lead (atom_wanted (head_behind p)) (spell_heads m hs) (behind_heads p hs)
  unfolding spell_heads behind_heads
  heads_lead (head x) p m = atom_leads x (head_behind p) m
  heads_lead (also u hs x) p m = join (spell_heads m hs) _ (heads_lead hs p m) (join (mere bar ∷ []) _ (bar_leads p hs u) (atom_leads x (head_after u p hs) _))

  head_leads : (h : Option (Heads ground)) (u : Free ground) (p : Program ground) (m : Mark) → Lead (atom_wanted (head_behind p)) (spell_head m h) (atom_wanted (literal_in (new_body u p h)))
  unfolding step moves try fire either when symbol_number spell_head else_wanted after_heads
  head_leads none u p m = one (atom_wanted (head_behind p)) _ _ (free_try ground _ u _)
  head_leads (some hs) u p m = join (spell_heads m hs) _ (heads_lead hs p m) (one (behind_heads p hs) _ _ (heads_step p hs :- refl ∙ free_try ground _ u _))

  dot_leads : (p : Program ground) (hs : Heads ground) → Lead (behind_heads p hs) (mere dot ∷ []) (atom_wanted (head_behind (p then fact hs)))
  unfolding try fire either when symbol_number after_heads
  dot_leads p hs = one (behind_heads p hs) _ _ (heads_step p hs dot refl)

  rule_leads : (r : Rule ground) (p : Program ground) (m : Mark) → Lead (atom_wanted (head_behind p)) (spell_rule m r) (atom_wanted (head_behind (p then r)))
  unfolding spell_rule past separator
  rule_leads (fact hs) p m = join (spell_heads m hs) _ (heads_lead hs p m) (dot_leads p hs)
  rule_leads (clause u h ls l) p m =
      rw (append_assoc (spell_head m h ++ with_commas spell_nth_literal ls))
      (join (spell_head m h ++ with_commas spell_nth_literal ls) _ (join (spell_head m h) _ (head_leads h u p m) (literals_lead ls u p h)) (literal_leads l false _ _))

  program_leads : (p : Program ground) → Lead (atom_wanted (head_behind empty)) (spell p) (atom_wanted (head_behind p))
  unfolding spell tokens
  program_leads empty = record { via = λ r. refl }
  program_leads (p then r) = join (spell p) _ (program_leads p) (rule_leads r p _)

  pub complete : (p : Program ground) → run (machine ground) (atom_wanted (head_behind empty)) (tokens (spell p)) ≡ some (atom_wanted (head_behind p))
  unfolding run
  complete p = rw append-nil at ((program_leads p).via [])
