-- The plain form stands for the same rules, and is its own plain form.
use mathlib.Core.Path.{◌≡◌, refl}
use mathlib.Core.Bool.{Bool}
use mathlib.Core.Option.{Option, none, some}
use mathlib.Core.List.{[]}
use Prim.Native.Nat.{zero, suc}
use Rattle.grammar.specs.Tokens.{Sign, sign, <>}
use Rattle.grammar.specs.Trees.{Sequence, empty, ◌then◌, Term, name, variable, string, number, negative, anonymous, bare, parentheses, arguments, Atom, atom, Literal, positive, negated, compared, computed, Heads, head, also, Rule, fact, clause, Program}
use Rattle.grammar.specs.Spelling.{inside, spell_argument, spell_nth_literal}
use Rattle.grammar.specs.Variables.{Variables}
use Rattle.grammar.specs.Abstraction.{term_for, terms_for, arguments_for, atom_for, comparison_for, literal_for, literals_for, heads_for, rule_for, rules_for}
use Rattle.grammar.specs.PlainForm.{each, plain_term, plain_arguments, plain_atom, plain_sign, plain_literal, plain_heads, plain_head, plain_rule, plain_form}
use Rattle.grammar.proofs.Plainer.{plainer_term, plainer_listed, plainer_compared, plainer_literal, plainer_heads}

-- ---- the same rules

same_sign : (r : Sign) → comparison_for (plain_sign r) ≡ comparison_for r
unfolding plain_sign comparison_for
same_sign (sign c) = refl
same_sign <> = refl

module _ {ground : Bool} where
  same_term : (vs : Variables) (t : Term ground) → term_for vs (plain_term t) ≡ term_for vs t
  unfolding plain_term term_for
  same_term vs (name b) = refl
  same_term vs (variable u b) = refl
  same_term vs (string b) = refl
  same_term vs (number n) = refl
  same_term vs (negative zero) = refl
  same_term vs (negative (suc n)) = refl
  same_term vs (anonymous u) = refl

  same_terms : (vs : Variables) (ts : Sequence (Term ground)) → terms_for vs (each plain_term ts) ≡ terms_for vs ts
  unfolding each terms_for
  same_terms vs empty = refl
  same_terms vs (ts then t) = rw (same_terms vs ts, (plainer_listed {ground = ground} spell_argument plain_term (λ k x. plainer_term _ x) ts).same vs, same_term)

  same_atom : (vs : Variables) (x : Atom ground) → atom_for vs (plain_atom x) ≡ atom_for vs x
  unfolding plain_atom plain_arguments atom_for arguments_for each
  same_atom vs (atom s b bare) = refl
  same_atom vs (atom s b parentheses) = refl
  same_atom vs (atom s b (arguments ts t)) = rw (same_terms vs (ts then t))

  same_literal : (vs : Variables) (l : Literal ground) → literal_for vs (plain_literal l) ≡ literal_for vs l
  unfolding plain_literal literal_for
  same_literal vs (positive x) = rw (same_atom vs x)
  same_literal vs (negated x) = rw (same_atom vs x)
  same_literal vs (compared t r u) = rw (same_sign r, (plainer_term inside t).same vs, same_term vs t, same_term _ u)
  same_literal vs (computed t r u o v) = rw (same_sign r, (plainer_term inside t).same vs, (plainer_compared inside t r u).same vs, same_term vs t, same_term _ u, same_term _ v)

  same_literals : (vs : Variables) (ls : Sequence (Literal ground)) → literals_for vs (each plain_literal ls) ≡ literals_for vs ls
  unfolding each literals_for
  same_literals vs empty = refl
  same_literals vs (ls then l) = rw (same_literals vs ls, (plainer_listed {ground = ground} spell_nth_literal plain_literal (λ k x. plainer_literal _ x) ls).same vs, same_literal _ l)

  same_heads : (hs : Heads ground) → heads_for (plain_heads hs) ≡ heads_for hs
  unfolding plain_heads heads_for
  same_heads (head x) = rw (same_atom [] x)
  same_heads (also u hs x) = rw (same_heads hs, (plainer_heads inside hs).same [], same_atom _ x)

  same_rule : (r : Rule ground) → rule_for (plain_rule r) ≡ rule_for r
  unfolding plain_rule plain_head rule_for each
  same_rule (fact hs) = rw (same_heads hs)
  same_rule (clause u none ls l) = rw (same_literals [] (ls then l))
  same_rule (clause u (some hs) ls l) = rw (same_heads hs, (plainer_heads inside hs).same [], same_literals _ (ls then l))

  -- the plain form stands for the same rules
  pub same_rules : (p : Program ground) → rules_for (plain_form p) ≡ rules_for p
  unfolding plain_form each rules_for
  same_rules empty = refl
  same_rules (p then r) = rw (same_rules p, same_rule r)

-- ---- plain forms are plain

again_each : {A : Type 0} (f : A → A) → ((x : A) → f (f x) ≡ f x) → (xs : Sequence A) → each f (each f xs) ≡ each f xs
unfolding each
again_each f h empty = refl
again_each f h (xs then x) = rw (again_each f h xs, h x)

again_sign : (r : Sign) → plain_sign (plain_sign r) ≡ plain_sign r
unfolding plain_sign
again_sign (sign c) = refl
again_sign <> = refl

module _ {ground : Bool} where
  again_term : (t : Term ground) → plain_term (plain_term t) ≡ plain_term t
  unfolding plain_term
  again_term (name b) = refl
  again_term (variable u b) = refl
  again_term (string b) = refl
  again_term (number n) = refl
  again_term (negative zero) = refl
  again_term (negative (suc n)) = refl
  again_term (anonymous u) = refl

  again_atom : (x : Atom ground) → plain_atom (plain_atom x) ≡ plain_atom x
  unfolding plain_atom plain_arguments
  again_atom (atom s b bare) = refl
  again_atom (atom s b parentheses) = refl
  again_atom (atom s b (arguments ts t)) = rw (again_each plain_term again_term ts, again_term t)

  again_literal : (l : Literal ground) → plain_literal (plain_literal l) ≡ plain_literal l
  unfolding plain_literal
  again_literal (positive x) = rw (again_atom x)
  again_literal (negated x) = rw (again_atom x)
  again_literal (compared t r u) = rw (again_term t, again_sign r, again_term u)
  again_literal (computed t r u o v) = rw (again_term t, again_sign r, again_term u, again_term v)

  again_heads : (hs : Heads ground) → plain_heads (plain_heads hs) ≡ plain_heads hs
  unfolding plain_heads
  again_heads (head x) = rw (again_atom x)
  again_heads (also u hs x) = rw (again_heads hs, again_atom x)

  again_head : (h : Option (Heads ground)) → plain_head (plain_head h) ≡ plain_head h
  unfolding plain_head
  again_head none = refl
  again_head (some hs) = rw (again_heads hs)

  again_rule : (r : Rule ground) → plain_rule (plain_rule r) ≡ plain_rule r
  unfolding plain_rule
  again_rule (fact hs) = rw (again_heads hs)
  again_rule (clause u h ls l) = rw (again_head h, again_each plain_literal again_literal ls, again_literal l)

  -- the plain form is its own plain form
  pub plain_again : (p : Program ground) → plain_form (plain_form p) ≡ plain_form p
  unfolding plain_form
  plain_again p = again_each plain_rule again_rule p
