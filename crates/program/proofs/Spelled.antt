-- A rule's spelling has one dot, at its end; behind its other tokens the rule's variables are met.
use mathlib.Core.Path.{◌≡◌, refl, sym as inv, ap, ◌∙◌}
use mathlib.Core.Bool.{Bool, true, false, cond}
use mathlib.Core.Option.{Option, none, some}
use mathlib.Core.List.{List, [], ◌∷◌, ◌++◌}
use Prim.Native.Nat.{ℕ, suc, ◌+◌}
use native.Mathlib.Omega.{arith}
use Rattle.reading.specs.Reading.{◌▹◌, tokens, unplaced}
use Rattle.reading.proofs.Lists.{tokens_append}
use Rattle.meaning.specs.Domain.{Operation}
use Rattle.grammar.specs.Tokens.{Sign, comma, dot, :-, Token, symbol}
use Rattle.grammar.specs.Trees.{Sequence, empty, ◌then◌, count, Term, name, variable, string, number, negative, anonymous, Arguments, bare, parentheses, arguments, Atom, atom, Literal, positive, negated, compared, computed, Heads, head, also, Rule, fact, clause}
use Rattle.grammar.specs.Spelling.{Mark, inside, Spelling, mere, with_commas, spell_term, spell_argument, spell_arguments, spell_signed, spell_atom, spell_operation, spell_compared, spell_literal, spell_nth_literal, spell_heads, spell_head, spell_rule}
use Rattle.grammar.specs.Variables.{meet_symbol, meet, met}
use Rattle.grammar.specs.Moves.{symbol_number, token_number}
use Rattle.grammar.proofs.Variables.{met_append, met_heads}
use Rattle.syntax.specs.Ahead.{ends_rule}
use Rattle.syntax.proofs.Lists.{met_then}
use Rattle.program.specs.Unbound.{Tokens, dots}
use Rattle.program.proofs.Segments.{comparison_goes}
use Rattle.program.proofs.Numbered.{head_variables, rule_variables}

-- how many dots there are in a spelling
unfoldable pub dots_in : List Token → ℕ
dots_in [] = 0
dots_in (t ∷ ts) = cond (ends_rule t) (suc (dots_in ts)) (dots_in ts)

pub dots_unplaced : (ts : Tokens) → dots ts ≡ dots_in (unplaced ts)
unfolding dots dots_in unplaced
dots_unplaced [] = refl
dots_unplaced (t ∷ ts) = rw (dots_unplaced ts)

pub dots_in_append : (l m : List Token) → dots_in (l ++ m) ≡ dots_in l + dots_in m
unfolding dots_in
dots_in_append [] m = omega arith
dots_in_append (t ∷ l) m = go (ends_rule t) (dots_in_append l m)
  where
    go : (b : Bool) → dots_in (l ++ m) ≡ dots_in l + dots_in m → cond b (suc (dots_in (l ++ m))) (dots_in (l ++ m)) ≡ cond b (suc (dots_in l)) (dots_in l) + dots_in m
    go true e = omega arith
    go false e = e

-- ---- no dot but the last

abbrev Dotless : Spelling → Type 0
Dotless s = dots_in (tokens s) ≡ 0

join : (l m : Spelling) → Dotless l → Dotless m → Dotless (l ++ m)
join l m e f = ap dots_in (tokens_append l m) ∙ dots_in_append (tokens l) (tokens m) ∙ rw (e, f)

commas : {A : Type 0} (f : ℕ → A → Spelling) → ((k : ℕ) (x : A) → Dotless (f k x)) → (xs : Sequence A) → Dotless (with_commas f xs)
unfolding with_commas dots_in tokens token_number symbol_number
commas f h empty = refl
commas f h (xs then x) = join (with_commas f xs ++ f (suc (count xs)) x) (mere comma ∷ []) (join (with_commas f xs) (f (suc (count xs)) x) (commas f h xs) (h (suc (count xs)) x)) refl

operation_goes : (o : Operation) → ends_rule (symbol (spell_operation o)) ≡ false
unfolding spell_operation token_number symbol_number
operation_goes Operation.plus = refl
operation_goes Operation.minus = refl
operation_goes Operation.times = refl

module _ {ground : Bool} where
  term_dotless : (m : Mark) (t : Term ground) → Dotless (spell_term m t)
  unfolding spell_term dots_in tokens token_number symbol_number
  term_dotless m (name b) = refl
  term_dotless m (variable u b) = refl
  term_dotless m (string b) = refl
  term_dotless m (number n) = refl
  term_dotless m (negative n) = refl
  term_dotless m (anonymous u) = refl

  arguments_dotless : (xs : Arguments ground) → Dotless (spell_arguments xs)
  unfolding spell_arguments dots_in tokens token_number symbol_number
  arguments_dotless bare = refl
  arguments_dotless parentheses = refl
  arguments_dotless (arguments ts t) = join (with_commas spell_argument ts ++ spell_argument (suc (count ts)) t) _ (join (with_commas spell_argument ts) _ (commas spell_argument (λ k x. term_dotless (Mark.argument k) x) ts) (term_dotless (Mark.argument (suc (count ts))) t)) refl

  atom_dotless : (m : Mark) (x : Atom ground) → Dotless (spell_atom m x)
  unfolding spell_atom spell_signed dots_in tokens token_number symbol_number
  atom_dotless m (atom true b xs) = arguments_dotless xs
  atom_dotless m (atom false b xs) = arguments_dotless xs

  compared_dotless : (m : Mark) (t : Term ground) (r : Sign) (u : Term ground) → Dotless (spell_compared m t r u)
  unfolding spell_compared dots_in tokens
  compared_dotless m t r u = join (spell_term m t) _ (term_dotless m t) (rw (comparison_goes r) (term_dotless inside u))

  literal_dotless : (m : Mark) (l : Literal ground) → Dotless (spell_literal m l)
  unfolding spell_literal dots_in tokens token_number symbol_number
  literal_dotless m (positive x) = atom_dotless m x
  literal_dotless m (negated x) = atom_dotless inside x
  literal_dotless m (compared t r u) = compared_dotless m t r u
  literal_dotless m (computed t r u o v) = join (spell_compared m t r u) _ (compared_dotless m t r u) (rw (operation_goes o) (term_dotless inside v))

  heads_dotless : (m : Mark) (hs : Heads ground) → Dotless (spell_heads m hs)
  unfolding spell_heads dots_in tokens token_number symbol_number
  heads_dotless m (head x) = atom_dotless m x
  heads_dotless m (also u hs x) = join (spell_heads m hs) _ (heads_dotless m hs) (atom_dotless _ x)

  head_dotless : (m : Mark) (h : Option (Heads ground)) → Dotless (spell_head m h)
  unfolding spell_head dots_in tokens token_number symbol_number
  head_dotless m none = refl
  head_dotless m (some hs) = join (spell_heads m hs) _ (heads_dotless m hs) refl

  head_met : (m : Mark) (h : Option (Heads ground)) → met [] (spell_head m h) ≡ head_variables h
  unfolding spell_head head_variables met meet meet_symbol
  head_met m none = refl
  head_met m (some hs) = met_append [] (spell_heads m hs) (mere :- ∷ []) ∙ met_heads m inside [] hs

  -- ---- the tokens of a rule: those before the dot, and the dot
  pub record Dotted (m : Mark) (r : Rule ground) : Type 0 where
    pub front : Spelling
    pub whole : spell_rule m r ≡ front ▹ mere dot
    pub no_dot : Dotless front
    pub meets : met [] front ≡ rule_variables r

  pub dotted : (m : Mark) (r : Rule ground) → Dotted m r
  unfolding spell_rule rule_variables head_variables
  dotted m (fact hs) = record { front = spell_heads m hs; whole = refl; no_dot = heads_dotless m hs; meets = met_heads m inside [] hs }
  dotted m (clause u h ls l) =
      record {
        front = spell_head m h ++ with_commas spell_nth_literal ls ++ spell_nth_literal (suc (count ls)) l;
        whole = refl;
        no_dot = join (spell_head m h ++ with_commas spell_nth_literal ls) _ (join (spell_head m h) _ (head_dotless m h) (commas spell_nth_literal (λ k x. literal_dotless (Mark.literal k) x) ls)) (literal_dotless (Mark.literal (suc (count ls))) l);
        meets = met_append [] (spell_head m h ++ with_commas spell_nth_literal ls) (spell_nth_literal (suc (count ls)) l) ∙ ap (λ vs. met vs (spell_nth_literal (suc (count ls)) l)) (met_append [] (spell_head m h) (with_commas spell_nth_literal ls) ∙ ap (λ vs. met vs (with_commas spell_nth_literal ls)) (head_met m h)) ∙ inv (met_then spell_nth_literal (head_variables h) ls l);
      }
