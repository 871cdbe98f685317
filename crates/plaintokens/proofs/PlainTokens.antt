-- Of a tree's tokens `plain_tokens` makes the tokens of its plain form: one law for each production.
use mathlib.Core.Path.{◌≡◌, refl, sym as inv, ap, ◌∙◌}
use mathlib.Core.Bool.{Bool, true, false, true≢false, and-false}
use mathlib.Core.Option.{Option, none, some}
use mathlib.Core.List.{List, [], ◌∷◌, ◌++◌, append_assoc, append-nil}
use Prim.Native.Nat.{ℕ, zero, suc}
use native.Mathlib.Omega.{arith}
use lib.Dec.{eqb}
use lib.ListN.{length, get_or}
use borrow.Author.Tests.{ne_eqb}
use Rattle.lexis.specs.Number.{decimal_after, decimal}
use Rattle.reading.specs.Reading.{Marked, ◌at◌, tokens}
use Rattle.reading.proofs.Lists.{tokens_append}
use Rattle.meaning.specs.Domain.{Operation, equal, unequal, less, at_most, greater, at_least}
use Rattle.meaning.specs.Rules.{Bytes}
use Rattle.grammar.specs.Tokens.{Sign, sign, <>, Symbol, not, opening, closing, comma, dot, :-, bar, Token, comparison, symbol}
use Rattle.grammar.specs.Trees.{Sequence, empty, ◌then◌, count, Term, name, variable, string, number, negative, anonymous, Arguments, bare, parentheses, arguments, Atom, atom, Literal, positive, negated, compared, computed, Heads, head, also, Rule, fact, clause, Program}
use Rattle.grammar.specs.Spelling.{Mark, inside, Spelling, mere, with_commas, spell_term, spell_argument, spell_arguments, spell_signed, spell_atom, spell_operation, spell_compared, spell_literal, spell_nth_literal, spell_heads, spell_head, spell_rule, spell}
use Rattle.grammar.specs.PlainForm.{each, plain_term, plain_arguments, plain_atom, plain_sign, plain_literal, plain_heads, plain_head, plain_rule, plain_form}
use Rattle.grammar.specs.Moves.{token_number, symbol_number, sign_number, comparison_number}
use Rattle.grammar.specs.Writing.{digits, token_bytes}
use Rattle.grammar.proofs.Plainer.{count_each, count_heads}
use Rattle.plainform.proofs.Digits.{number_spelled, decimal_digits}
use Rattle.plaintokens.specs.Neighbours.{ends_term, left_out}
use Rattle.plaintokens.specs.PlainTokens.{plain_token, first_kind, first_byte, plain_unless, plain_behind, plain_tokens}

-- ---- parts of a spelling

-- behind a kind of which P holds the tokens of l become those of l', and what follows stands behind a kind of which Q holds
record Rewrites (P Q : ℕ → Type 0) (l l' : Spelling) : Type 0 where
  pub on : (r r' : List Token) → ((j : ℕ) → Q j → plain_behind j r ≡ r') → (k : ℕ) → P k → plain_behind k (tokens l ++ r) ≡ tokens l' ++ r'

abbrev Any : ℕ → Type 0
Any k = Unit {0}

-- no term has just ended: a minus is a sign
abbrev Fresh : ℕ → Type 0
Fresh k = ends_term k ≡ false

-- one has: a minus is an operation
abbrev Ended : ℕ → Type 0
Ended k = ends_term k ≡ true

join : {P Q R : ℕ → Type 0} {l l' m m' : Spelling} → Rewrites P Q l l' → Rewrites Q R m m' → Rewrites P R (l ++ m) (l' ++ m')
join {l = l} {l'} {m} {m'} g h = record { on = λ r r' q. rw (tokens_append l m, tokens_append l' m', append_assoc (tokens l), append_assoc (tokens l')) (g.on _ _ (h.on r r' q)) }

nothing : {P : ℕ → Type 0} → Rewrites P P [] []
unfolding tokens
nothing = record { on = λ r r' q. q }

wider : {P P' Q Q' : ℕ → Type 0} {l l' : Spelling} → ((k : ℕ) → P' k → P k) → ((k : ℕ) → Q k → Q' k) → Rewrites P Q l l' → Rewrites P' Q' l l'
wider f g h = record { on = λ r r' q k p. h.on r r' (λ j s. q j (g j s)) k (f k p) }

-- one token that stays wherever it stands
stays : {P Q : ℕ → Type 0} (p : Marked Token Mark) → ((k : ℕ) (ts : List Token) → P k → left_out k (token_number p.token) (first_kind ts) (first_byte ts) ≡ false) → plain_token p.token ≡ p.token → Q (token_number p.token) → Rewrites P Q (p ∷ []) (p ∷ [])
unfolding tokens plain_behind plain_unless
stays p s e q = record { on = λ r r' h k f. rw (s k r f, e, h (token_number p.token) q) }

-- ---- a number's first digit

-- only the number 0 is written with a 0 in front
first_digit : (n : ℕ) → get_or (digits n n) 0 0 ≡ 48 → n ≡ 0
unfolding decimal_after
first_digit n e = go (digits n n) e ((number_spelled n).1 e) (decimal_digits n)
  where
    go : (b : Bytes) → get_or b 0 0 ≡ 48 → length b ≡ 1 → decimal b ≡ n → n ≡ 0
    go [] e l d = absurd (let z : ⊥ = omega arith in z)
    go (c ∷ []) e l d = omega (arith, e, d)
    go (c ∷ x ∷ b) e l d = absurd (let z : ⊥ = omega arith in z)

-- ---- marks and names

-- a mark that looks at nothing: neither a parenthesis nor a minus
mark : {P Q : ℕ → Type 0} (s : Symbol) (m : Mark) → eqb (symbol_number s) 5 ≡ false → eqb (symbol_number s) 6 ≡ false → eqb (symbol_number s) 10 ≡ false → Q (symbol_number s) → Rewrites P Q (symbol s at m ∷ []) (symbol s at m ∷ [])
unfolding token_number plain_token
mark s m a b c q = stays _ (λ k ts f. rw (a, b, c)) refl q

-- `)` behind a term, and `(` before anything but `)`
behind_term : (k : ℕ) → Ended k → eqb k 5 ≡ false
behind_term k e = ne_eqb k 5 (λ z. true≢false (inv e ∙ ap ends_term z))

closes : Rewrites Ended Any (mere closing ∷ []) (mere closing ∷ [])
unfolding token_number symbol_number plain_token
closes = stays _ (λ k ts f. behind_term k f) refl tt

opens : {l l' : Spelling} → ((r : List Token) → eqb (first_kind (tokens l ++ r)) 6 ≡ false) → Rewrites Fresh Any l l' → Rewrites Any Any (mere opening ∷ l) (mere opening ∷ l')
unfolding tokens plain_behind token_number symbol_number plain_unless plain_token
opens n h = record { on = λ r r' q k f. rw (n r, h.on r r' q 5 refl) }

signed : (m : Mark) (s : Bool) (b : Bytes) → Rewrites Any Any (spell_signed m s b) (spell_signed m s b)
unfolding spell_signed tokens plain_behind token_number symbol_number plain_unless first_kind plain_token
signed m true b = record { on = λ r r' h k f. rw (and-false, h 0 tt) }
signed m false b = stays _ (λ k ts f. refl) refl tt

-- a comparison stays, and no term ends with it
a_comparison : (r : Sign) → ((k behind first : ℕ) → left_out k (sign_number r) behind first ≡ false) × Fresh (sign_number r)
unfolding sign_number comparison_number
a_comparison (sign equal) = ((λ k b f. refl), refl)
a_comparison (sign unequal) = ((λ k b f. refl), refl)
a_comparison (sign less) = ((λ k b f. refl), refl)
a_comparison (sign at_most) = ((λ k b f. refl), refl)
a_comparison (sign greater) = ((λ k b f. refl), refl)
a_comparison (sign at_least) = ((λ k b f. refl), refl)
a_comparison <> = ((λ k b f. refl), refl)

a_sign : {P : ℕ → Type 0} (r : Sign) → Rewrites P Fresh (comparison r at inside ∷ []) (comparison (plain_sign r) at inside ∷ [])
unfolding tokens plain_behind plain_unless plain_token token_number
a_sign s = let c = a_comparison s in record { on = λ r r' h k p. rw (c.0 k (first_kind r) (first_byte r), h (sign_number s) c.1) }

operation : (o : Operation) → Rewrites Ended Fresh (mere (spell_operation o) ∷ []) (mere (spell_operation o) ∷ [])
unfolding spell_operation token_number symbol_number plain_token
operation Operation.plus = mark _ _ refl refl refl refl
operation Operation.minus = stays _ (λ k ts f. rw f) refl refl
operation Operation.times = mark _ _ refl refl refl refl

-- ---- things with a comma behind each

listed : {A : Type 0} (f : ℕ → A → Spelling) (g : A → A) → ((k : ℕ) (x : A) → Rewrites Fresh Any (f k x) (f k (g x))) → (xs : Sequence A) → Rewrites Fresh Fresh (with_commas f xs) (with_commas f (each g xs))
unfolding with_commas each symbol_number
listed f g h empty = nothing
listed f g h (xs then x) = rw (count_each g xs) (join (join (listed f g h xs) (h _ x)) (mark comma inside refl refl refl refl))

-- ---- terms

module _ {ground : Bool} where
  term : (m : Mark) (t : Term ground) → Rewrites Fresh Ended (spell_term m t) (spell_term m (plain_term t))
  unfolding spell_term plain_term token_number symbol_number plain_token tokens plain_behind plain_unless first_kind first_byte token_bytes digits
  term m (name b) = stays _ (λ k ts f. refl) refl refl
  term m (variable u b) = stays _ (λ k ts f. refl) refl refl
  term m (string b) = stays _ (λ k ts f. refl) refl refl
  term m (number n) = stays _ (λ k ts f. refl) refl refl
  term m (negative zero) = record { on = λ r r' h k f. rw (f, h 4 refl) }
  term m (negative (suc n)) = record { on = λ r r' h k f. rw (ne_eqb (get_or (digits (suc n) (suc n)) 0 0) 48 (λ e. let z = first_digit (suc n) e in omega arith), and-false, h 4 refl) }
  term m (anonymous u) = stays _ (λ k ts f. refl) refl refl

  -- a term never begins with `)`, nor does a list of terms
  term_first : (m : Mark) (t : Term ground) (r : List Token) → eqb (first_kind (tokens (spell_term m t) ++ r)) 6 ≡ false
  unfolding spell_term tokens first_kind token_number symbol_number
  term_first m (name b) r = refl
  term_first m (variable u b) r = refl
  term_first m (string b) r = refl
  term_first m (number n) r = refl
  term_first m (negative n) r = refl
  term_first m (anonymous u) r = refl

  terms_first : (ts : Sequence (Term ground)) (m : Mark) (t : Term ground) (l : Spelling) (r : List Token) → eqb (first_kind (tokens ((with_commas spell_argument ts ++ spell_term m t) ++ l) ++ r)) 6 ≡ false
  unfolding with_commas
  terms_first empty m t l r = rw (tokens_append (spell_term m t) l, append_assoc (tokens (spell_term m t))) (term_first m t _)
  terms_first (ts then u) m t l r =
      let a = with_commas spell_argument ts ++ spell_argument (suc (count ts)) u in
      rw (append_assoc a (mere comma ∷ []) (spell_term m t), append_assoc a (mere comma ∷ spell_term m t) l) (terms_first ts _ u (mere comma ∷ spell_term m t ++ l) r)

  -- ---- atoms

  argument_list : (xs : Arguments ground) → Rewrites Any Any (spell_arguments xs) (spell_arguments (plain_arguments xs))
  unfolding spell_arguments plain_arguments tokens plain_behind token_number symbol_number plain_unless first_kind plain_token
  argument_list bare = nothing
  argument_list parentheses = record { on = λ r r' h k f. h 6 tt }
  argument_list (arguments ts t) = rw (count_each plain_term ts) (opens (terms_first ts _ t (mere closing ∷ [])) (join (join (listed spell_argument plain_term (λ k x. wider (λ k p. p) (λ k q. tt) (term _ x)) ts) (term _ t)) closes))

  an_atom : (m : Mark) (x : Atom ground) → Rewrites Any Any (spell_atom m x) (spell_atom m (plain_atom x))
  unfolding spell_atom plain_atom
  an_atom m (atom s b xs) = join (signed m s b) (argument_list xs)

  -- ---- literals

  comparing : (m : Mark) (t : Term ground) (r : Sign) (u : Term ground) → Rewrites Fresh Ended (spell_compared m t r u) (spell_compared m (plain_term t) (plain_sign r) (plain_term u))
  unfolding spell_compared
  comparing m t r u = join (term m t) (join (a_sign r) (term inside u))

  a_literal : (m : Mark) (l : Literal ground) → Rewrites Fresh Any (spell_literal m l) (spell_literal m (plain_literal l))
  unfolding spell_literal plain_literal symbol_number
  a_literal m (positive x) = wider (λ k p. tt) (λ k q. q) (an_atom m x)
  a_literal m (negated x) = join {l = symbol not at m ∷ []} (mark not m refl refl refl tt) (an_atom inside x)
  a_literal m (compared t r u) = wider (λ k p. p) (λ k q. tt) (comparing m t r u)
  a_literal m (computed t r u o v) = wider (λ k p. p) (λ k q. tt) (join (comparing m t r u) (join (operation o) (term inside v)))

  -- ---- rules and programs

  heads : (m : Mark) (hs : Heads ground) → Rewrites Any Any (spell_heads m hs) (spell_heads m (plain_heads hs))
  unfolding spell_heads plain_heads symbol_number
  heads m (head x) = an_atom m x
  heads m (also u hs x) = rw (count_heads hs) (join (heads m hs) (join {l = mere bar ∷ []} {l' = mere bar ∷ []} (mark bar inside refl refl refl tt) (an_atom _ x)))

  a_head : (m : Mark) (h : Option (Heads ground)) → Rewrites Any Fresh (spell_head m h) (spell_head m (plain_head h))
  unfolding spell_head plain_head symbol_number
  a_head m none = mark :- m refl refl refl refl
  a_head m (some hs) = join (heads m hs) (mark :- inside refl refl refl refl)

  a_rule : (m : Mark) (r : Rule ground) → Rewrites Any Any (spell_rule m r) (spell_rule m (plain_rule r))
  unfolding spell_rule plain_rule symbol_number
  a_rule m (fact hs) = join (heads m hs) (mark dot inside refl refl refl tt)
  a_rule m (clause u h ls l) = rw (count_each plain_literal ls) (join (join (join (a_head m h) (listed spell_nth_literal plain_literal (λ k x. a_literal _ x) ls)) (a_literal _ l)) (mark dot inside refl refl refl tt))

  a_program : (c : Program ground) → Rewrites Any Any (spell c) (spell (plain_form c))
  unfolding spell plain_form each
  a_program empty = nothing
  a_program (c then r) = rw (count_each plain_rule c) (join (a_program c) (a_rule _ r))

  -- ---- the statement

  pub plain_tokens_of : (c : Program ground) → plain_tokens (tokens (spell c)) ≡ tokens (spell (plain_form c))
  unfolding plain_behind
  plain_tokens_of c = simp append-nil at ((a_program c).on [] [] (λ j q. refl) 8 tt)
