-- The variables of a rule, in the order of their numbers: every variable of its meaning has a number below how many there are.
use mathlib.Core.Path.{◌≡◌, refl, sym as inv, ap, ◌∙◌}
use mathlib.Core.Bool.{Bool, true, false, cond, ◌&&◌, false≢true}
use mathlib.Core.Option.{Option, none, some}
use mathlib.Core.List.{List, [], ◌∷◌, ◌++◌}
use Prim.Native.Nat.{ℕ, suc, ◌≤◌, ◌<◌}
use native.Mathlib.Omega.{arith}
use lib.Dec.{ltb}
use lib.ListN.{length}
use borrow.Author.Tests.{lt-ltb, ltb-true}
use Rattle.reading.specs.Reading.{◌▹◌}
use Rattle.meaning.specs.Rules.{Bytes}
use Rattle.meaning.specs.Sets.{every}
use Rattle.meaning.specs.Safety.{term_bound, side_bound, atom_bound, literal_bound, head_bound}
use Rattle.meaning.specs.Domain.{Operation}
use Rattle.meaning.proofs.Booleans.{and_both}
use Rattle.grammar.specs.Tokens.{Sign, closing}
use Rattle.grammar.specs.Trees.{Sequence, empty, ◌then◌, count, Term, name, variable, string, number, negative, anonymous, Arguments, bare, parentheses, arguments, Atom, atom, Literal, positive, negated, compared, computed, Free, Heads, head, also, Rule, fact, clause}
use Rattle.grammar.specs.Spelling.{Mark, inside, mere, with_commas, spell_term, spell_argument, spell_arguments, spell_signed, spell_atom, spell_compared, spell_literal, spell_nth_literal, spell_heads}
use Rattle.grammar.specs.Variables.{Variables, number_of, with_variable, meet_symbol, meet, met}
use Rattle.grammar.specs.Abstraction.{term_for, terms_for, arguments_for, atom_for, literal_for, literals_for, heads_for, rule_for}
use Rattle.grammar.proofs.Variables.{met_append, met_atom, met_literal, met_signed, number_at_most}
use Rattle.syntax.proofs.Lists.{met_then}
use Rattle.syntax.proofs.Variables.{length_more}
use Rattle.syntax.proofs.Signs.{no_variable}

-- the variables that are met in the heads
unfoldable pub head_variables : {ground : Bool} → Option (Heads ground) → Variables
head_variables none = []
head_variables (some hs) = met [] (spell_heads inside hs)

-- the variables of a rule, in the order of their numbers
unfoldable pub rule_variables : {ground : Bool} → Rule ground → Variables
rule_variables (fact hs) = head_variables (some hs)
rule_variables (clause u h ls l) = met (head_variables h) (with_commas spell_nth_literal (ls then l))

-- the numbers below n
abbrev pub below : ℕ → ℕ → Bool
below n x = ltb x n

pub every_on : {A : Type 0} (f : A → Bool) (l : List A) (x : A) → every f l ≡ true → f x ≡ true → every f (l ▹ x) ≡ true
unfolding every
every_on f [] x g h = rw h
every_on f (y ∷ l) x g h = go (f y) refl g (λ k. every_on f l x k h)
  where
    go : (b : Bool) → f y ≡ b → (b && every f l) ≡ true → (every f l ≡ true → every f (l ▹ x) ≡ true) → (f y && every f (l ▹ x)) ≡ true
    go true e k rec = rw e (rec k)
    go false e k rec = absurd (false≢true k)

-- ---- a variable is met at each place where one stands

with_more : (vs : Variables) (b : Bytes) → (length vs ≤ length (with_variable vs b)) × (number_of b vs < length (with_variable vs b))
unfolding with_variable
with_more vs b = go (ltb (number_of b vs) (length vs)) refl
  where
    go : (e : Bool) → ltb (number_of b vs) (length vs) ≡ e → (length vs ≤ length (cond (ltb (number_of b vs) (length vs)) vs (vs ▹ some b))) × (number_of b vs < length (cond (ltb (number_of b vs) (length vs)) vs (vs ▹ some b)))
    go true e = rw e (omega arith, ltb-true (number_of b vs) (length vs) e)
    go false e = rw (e, length_more vs (some b)) (omega arith, omega (arith, number_at_most b vs))

module _ {ground : Bool} where
  grows_term : (vs : Variables) (m : Mark) (t : Term ground) → length vs ≤ length (met vs (spell_term m t))
  unfolding met meet meet_symbol spell_term
  grows_term vs m (name b) = omega arith
  grows_term vs m (variable u b) = (with_more vs b).0
  grows_term vs m (string b) = omega arith
  grows_term vs m (number n) = omega arith
  grows_term vs m (negative n) = omega arith
  grows_term vs m (anonymous u) = rw (length_more vs none) (omega arith)

  term_below : (vs : Variables) (m : Mark) (t : Term ground) (n : ℕ) → length (met vs (spell_term m t)) ≤ n → term_bound (below n) (term_for vs t) ≡ true
  unfolding met meet meet_symbol spell_term term_bound term_for
  term_below vs m (name b) n h = refl
  term_below vs m (variable u b) n h = lt-ltb (number_of b vs) n (omega (arith, (with_more vs b).1))
  term_below vs m (string b) n h = refl
  term_below vs m (number k) n h = refl
  term_below vs m (negative k) n h = refl
  term_below vs m (anonymous u) n h = lt-ltb (length vs) n (omega (arith, length_more vs none))

  grows_terms : (vs : Variables) (ts : Sequence (Term ground)) → length vs ≤ length (met vs (with_commas spell_argument ts))
  unfolding with_commas met
  grows_terms vs empty = omega arith
  grows_terms vs (ts then t) = rw (met_then spell_argument vs ts t) (omega (arith, grows_terms vs ts, grows_term (met vs (with_commas spell_argument ts)) (Mark.argument (suc (count ts))) t))

  terms_below : (vs : Variables) (ts : Sequence (Term ground)) (n : ℕ) → length (met vs (with_commas spell_argument ts)) ≤ n → every (term_bound (below n)) (terms_for vs ts) ≡ true
  unfolding terms_for every
  terms_below vs empty n h = refl
  terms_below vs (ts then t) n h =
      let k = rw (met_then spell_argument vs ts t) at h in
      every_on (term_bound (below n)) (terms_for vs ts) (term_for (met vs (with_commas spell_argument ts)) t) (terms_below vs ts n (omega (arith, grows_term (met vs (with_commas spell_argument ts)) (Mark.argument (suc (count ts))) t))) (term_below (met vs (with_commas spell_argument ts)) (Mark.argument (suc (count ts))) t n k)

  listed : (vs : Variables) (ts : Sequence (Term ground)) (t : Term ground) → met vs (spell_arguments (arguments ts t)) ≡ met vs (with_commas spell_argument (ts then t))
  unfolding spell_arguments met meet meet_symbol
  listed vs ts t = met_append vs (with_commas spell_argument ts ++ spell_argument (suc (count ts)) t) (mere closing ∷ []) ∙ met_append vs (with_commas spell_argument ts) (spell_argument (suc (count ts)) t) ∙ inv (met_then spell_argument vs ts t)

  grows_arguments : (vs : Variables) (xs : Arguments ground) → length vs ≤ length (met vs (spell_arguments xs))
  unfolding spell_arguments met meet meet_symbol
  grows_arguments vs bare = omega arith
  grows_arguments vs parentheses = omega arith
  grows_arguments vs (arguments ts t) = rw (listed vs ts t) (grows_terms vs (ts then t))

  arguments_below : (vs : Variables) (xs : Arguments ground) (n : ℕ) → length (met vs (spell_arguments xs)) ≤ n → every (term_bound (below n)) (arguments_for vs xs) ≡ true
  unfolding arguments_for every
  arguments_below vs bare n h = refl
  arguments_below vs parentheses n h = refl
  arguments_below vs (arguments ts t) n h = terms_below vs (ts then t) n (rw (listed vs ts t) at h)

  met_atom_only : (vs : Variables) (m : Mark) (s : Bool) (b : Bytes) (xs : Arguments ground) → met vs (spell_atom m (atom s b xs)) ≡ met vs (spell_arguments xs)
  unfolding spell_atom
  met_atom_only vs m s b xs = met_append vs (spell_signed m s b) (spell_arguments xs) ∙ rw (met_signed vs m s b)

  grows_atom : (vs : Variables) (m : Mark) (x : Atom ground) → length vs ≤ length (met vs (spell_atom m x))
  grows_atom vs m (atom s b xs) = rw (met_atom_only vs m s b xs) (grows_arguments vs xs)

  atom_below : (vs : Variables) (m : Mark) (x : Atom ground) (n : ℕ) → length (met vs (spell_atom m x)) ≤ n → atom_bound (below n) (atom_for vs x) ≡ true
  unfolding atom_bound atom_for
  atom_below vs m (atom s b xs) n h = arguments_below vs xs n (rw (met_atom_only vs m s b xs) at h)

  met_compared : (vs : Variables) (m : Mark) (t : Term ground) (r : Sign) (u : Term ground) → met vs (spell_compared m t r u) ≡ met (met vs (spell_term m t)) (spell_term inside u)
  unfolding spell_compared met meet
  met_compared vs m t r u = met_append vs (spell_term m t) _

  met_computed : (vs : Variables) (m : Mark) (t : Term ground) (r : Sign) (u : Term ground) (o : Operation) (v : Term ground) → met vs (spell_literal m (computed t r u o v)) ≡ met (met vs (spell_compared m t r u)) (spell_term inside v)
  unfolding spell_literal met
  met_computed vs m t r u o v = met_append vs (spell_compared m t r u) _ ∙ ap (λ ws. met ws (spell_term inside v)) (no_variable (met vs (spell_compared m t r u)) o)

  grows_literal : (vs : Variables) (l : Literal ground) → length vs ≤ length (met vs (spell_literal inside l))
  unfolding met meet meet_symbol spell_literal
  grows_literal vs (positive x) = grows_atom vs inside x
  grows_literal vs (negated x) = grows_atom vs inside x
  grows_literal vs (compared t r u) = rw (met_compared vs inside t r u) (omega (arith, grows_term vs inside t, grows_term (met vs (spell_term inside t)) inside u))
  grows_literal vs (computed t r u o v) = rw (met_computed vs inside t r u o v, met_compared vs inside t r u) (omega (arith, grows_term vs inside t, grows_term (met vs (spell_term inside t)) inside u, grows_term (met (met vs (spell_term inside t)) (spell_term inside u)) inside v))

  literal_below : (vs : Variables) (l : Literal ground) (n : ℕ) → length (met vs (spell_literal inside l)) ≤ n → literal_bound (below n) (literal_for vs l) ≡ true
  unfolding met meet meet_symbol spell_literal literal_bound side_bound literal_for
  literal_below vs (positive x) n h = atom_below vs inside x n h
  literal_below vs (negated x) n h = atom_below vs inside x n h
  literal_below vs (compared t r u) n h =
      let k = rw (met_compared vs inside t r u) at h in
      and_both _ _ (term_below vs inside t n (omega (arith, grows_term (met vs (spell_term inside t)) inside u))) (term_below (met vs (spell_term inside t)) inside u n k)
  literal_below vs (computed t r u o v) n h =
      let k = rw (met_computed vs inside t r u o v) at h in
      let j = grows_term (met vs (spell_compared inside t r u)) inside v in
      let i : length (met (met vs (spell_term inside t)) (spell_term inside u)) ≤ n = rw (← (met_compared vs inside t r u)) (omega arith) in
      and_both _ _ (term_below vs inside t n (omega (arith, grows_term (met vs (spell_term inside t)) inside u))) (and_both _ _ (term_below (met vs (spell_term inside t)) inside u n i) (term_below (met vs (spell_compared inside t r u)) inside v n k))

  nth : (vs : Variables) (ls : Sequence (Literal ground)) (l : Literal ground) → met vs (with_commas spell_nth_literal (ls then l)) ≡ met (met vs (with_commas spell_nth_literal ls)) (spell_literal inside l)
  nth vs ls l = met_then spell_nth_literal vs ls l ∙ met_literal (Mark.literal (suc (count ls))) inside (met vs (with_commas spell_nth_literal ls)) l

  grows_literals : (vs : Variables) (ls : Sequence (Literal ground)) → length vs ≤ length (met vs (with_commas spell_nth_literal ls))
  unfolding with_commas met
  grows_literals vs empty = omega arith
  grows_literals vs (ls then l) = rw (nth vs ls l) (omega (arith, grows_literals vs ls, grows_literal (met vs (with_commas spell_nth_literal ls)) l))

  literals_below : (vs : Variables) (ls : Sequence (Literal ground)) (n : ℕ) → length (met vs (with_commas spell_nth_literal ls)) ≤ n → every (literal_bound (below n)) (literals_for vs ls) ≡ true
  unfolding literals_for every
  literals_below vs empty n h = refl
  literals_below vs (ls then l) n h =
      let k = rw (nth vs ls l) at h in
      every_on (literal_bound (below n)) (literals_for vs ls) (literal_for (met vs (with_commas spell_nth_literal ls)) l) (literals_below vs ls n (omega (arith, grows_literal (met vs (with_commas spell_nth_literal ls)) l))) (literal_below (met vs (with_commas spell_nth_literal ls)) l n k)

  met_also : (u : Free ground) (hs : Heads ground) (x : Atom ground) → met [] (spell_heads inside (also u hs x)) ≡ met (met [] (spell_heads inside hs)) (spell_atom inside x)
  unfolding spell_heads met meet meet_symbol
  met_also u hs x = met_append [] (spell_heads inside hs) _ ∙ met_atom _ inside (met [] (spell_heads inside hs)) x

  heads_below : (hs : Heads ground) (n : ℕ) → length (met [] (spell_heads inside hs)) ≤ n → head_bound (below n) (heads_for hs) ≡ true
  unfolding head_bound heads_for spell_heads every
  heads_below (head x) n h = rw (atom_below [] inside x n h)
  heads_below (also u hs x) n h =
      let vs = met [] (spell_heads inside hs) in
      let k = rw (met_also u hs x) at h in
      every_on (atom_bound (below n)) (heads_for hs) (atom_for vs x) (heads_below hs n (omega (arith, grows_atom vs inside x))) (atom_below vs inside x n k)

  -- in the heads and in the body
  pub rule_below : (x : Rule ground) (n : ℕ) → length (rule_variables x) ≤ n → (head_bound (below n) (rule_for x).heads ≡ true) × (every (literal_bound (below n)) (rule_for x).body ≡ true)
  unfolding rule_variables head_variables rule_for head_bound every
  rule_below (fact hs) n h = (heads_below hs n h, refl)
  rule_below (clause u none ls l) n h = (refl, literals_below [] (ls then l) n h)
  rule_below (clause u (some hs) ls l) n h = (heads_below hs n (omega (arith, grows_literals (met [] (spell_heads inside hs)) (ls then l))), literals_below (met [] (spell_heads inside hs)) (ls then l) n h)
