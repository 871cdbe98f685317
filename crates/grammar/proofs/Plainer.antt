-- The spelling of a plain form beside the spelling that it comes from: the sizes are kept, the same variables are met, and nothing gets longer.
use mathlib.Core.Path.{◌≡◌, refl, ap}
use mathlib.Core.Bool.{Bool, true, false, cond}
use mathlib.Core.Option.{Option, none, some}
use mathlib.Core.List.{List, [], ◌∷◌, ◌++◌, append_assoc}
use Prim.Native.Nat.{ℕ, zero, suc, ◌≤◌}
use native.Mathlib.Omega.{arith}
use lib.ListN.{length, length-append}
use Rattle.reading.specs.Reading.{Marked, ◌at◌, ◌▹◌, tokens, Within}
use Rattle.reading.proofs.Lists.{tokens_append, within_split, within_join}
use Rattle.meaning.specs.Domain.{Operation, unequal}
use Rattle.meaning.specs.Rules.{Bytes}
use Rattle.grammar.specs.Tokens.{Sign, sign, <>, Symbol, underscore, not, minus, opening, closing, comma, dot, :-, plus, times, bar, Token, comparison, symbol}
use Rattle.grammar.specs.Trees.{Sequence, empty, ◌then◌, count, Term, name, variable, string, number, negative, anonymous, Arguments, bare, parentheses, arguments, Atom, atom, Literal, positive, negated, compared, computed, Heads, head, also, head_count, Rule, fact, clause, Program}
use Rattle.grammar.specs.Spelling.{Mark, inside, Spelling, mere, with_commas, spell_term, spell_argument, spell_arguments, spell_signed, spell_atom, spell_operation, spell_compared, spell_literal, spell_nth_literal, spell_heads, spell_head, spell_rule, spell}
use Rattle.grammar.specs.Variables.{Variables, meet_symbol, meet, met}
use Rattle.grammar.specs.Sizes.{too_big, too_long, is_underscore, too_many_variables, refusal, fault, language}
use Rattle.grammar.specs.PlainForm.{each, plain_term, plain_arguments, plain_atom, plain_sign, plain_literal, plain_heads, plain_head, plain_rule, plain_form}
use Rattle.grammar.specs.Writing.{digits, symbol_bytes, comparison_bytes, sign_bytes, token_bytes, is_word_symbol, is_word}
use Rattle.grammar.proofs.Variables.{met_append, met_seen}

-- ---- written with a blank behind `not` only: in a program no other is needed

unfoldable pub is_not : Symbol → Bool
is_not underscore = false
is_not not = true
is_not minus = false
is_not opening = false
is_not closing = false
is_not comma = false
is_not dot = false
is_not :- = false
is_not plus = false
is_not times = false
is_not bar = false

unfoldable pub behind_not : Bool → List Token → Bytes
behind_not false ts = []
behind_not true [] = []
behind_not true (u ∷ us) = cond (is_word u) (32 ∷ []) []

unfoldable pub gap : Token → List Token → Bytes
gap (Token.name b) ts = []
gap (Token.variable b) ts = []
gap (Token.string b) ts = []
gap (Token.number n) ts = []
gap (comparison r) ts = []
gap (symbol s) ts = behind_not (is_not s) ts
gap (Token.stray b) ts = []

unfoldable pub spaced : List Token → Bytes
spaced [] = []
spaced (t ∷ ts) = token_bytes t ++ gap t ts ++ spaced ts

-- ---- P holds of each token

abbrev pub All : (Token → Type 0) → List Token → Type 0
All P [] = Unit {0}
All P (t ∷ ts) = P t × All P ts

pub all_split : (P : Token → Type 0) (l m : List Token) → All P (l ++ m) → All P l × All P m
all_split P [] m h = (tt, h)
all_split P (t ∷ l) m h = let q = all_split P l m h.1 in ((h.0, q.0), q.1)

all_join : (P : Token → Type 0) (l m : List Token) → All P l → All P m → All P (l ++ m)
all_join P [] m g h = h
all_join P (t ∷ l) m g h = (g.0, all_join P l m g.1 h)

-- as many behind as before
pub count_each : {A : Type 0} (f : A → A) (xs : Sequence A) → count (each f xs) ≡ count xs
unfolding count each
count_each f empty = refl
count_each f (xs then x) = ap suc (count_each f xs)

pub count_heads : {ground : Bool} (hs : Heads ground) → head_count (plain_heads hs) ≡ head_count hs
unfolding head_count plain_heads
count_heads (head x) = refl
count_heads (also u hs x) = ap suc (count_heads hs)

-- ---- plainer spellings

module _ (ground : Bool) where
  -- every token of l' is one of l, or `!=`
  pub record Plainer (l l' : Spelling) : Type 1 where
    pub within : (vs : Variables) → Within (language ground) vs l → Within (language ground) vs l'
    pub same : (vs : Variables) → met vs l' ≡ met vs l
    pub kept : (P : Token → Type 0) → P (comparison (sign unequal)) → All P (tokens l) → All P (tokens l')
    pub fewer : length l' ≤ length l
    pub shorter : (r r' : List Token) → length (spaced r') ≤ length (spaced r) → length (spaced (tokens l' ++ r')) ≤ length (spaced (tokens l ++ r))

module _ {ground : Bool} where
  join : {l l' m m' : Spelling} → Plainer ground l l' → Plainer ground m m' → Plainer ground (l ++ m) (l' ++ m')
  join {l} {l'} {m} {m'} g h =
      record {
        within = λ vs w. let q = within_split (language ground) vs l m w in within_join (language ground) vs l' m' (g.within vs q.0) (rw (met_seen ground vs l', g.same vs) (h.within _ (rw (met_seen ground vs l) at q.1)));
        same = λ vs. rw (met_append vs l m, met_append vs l' m', g.same vs) (h.same _);
        kept = λ P e a. let q = all_split P (tokens l) (tokens m) (rw (tokens_append l m) at a) in rw (tokens_append l' m') (all_join P (tokens l') (tokens m') (g.kept P e q.0) (h.kept P e q.1));
        fewer = let f = g.fewer in let k = h.fewer in rw (length-append l m, length-append l' m') (omega arith);
        shorter = λ r r' k. rw (tokens_append l m, tokens_append l' m', append_assoc (tokens l), append_assoc (tokens l')) (g.shorter _ _ (h.shorter r r' k));
      }

  nothing : Plainer ground [] []
  unfolding tokens
  nothing = record { within = λ vs w. w; same = λ vs. refl; kept = λ P e a. a; fewer = omega arith; shorter = λ r r' k. k }

  -- one token that wants no blank behind it
  one : (p : Marked Token Mark) → ((ts : List Token) → gap p.token ts ≡ []) → Plainer ground (p ∷ []) (p ∷ [])
  unfolding tokens spaced
  one p q = record { within = λ vs w. w; same = λ vs. refl; kept = λ P e a. a; fewer = omega arith; shorter = λ r r' k. rw (q r, q r') (simp length-append (omega arith)) }

  -- ---- terms

  pub plainer_term : (m : Mark) (t : Term ground) → Plainer ground (spell_term m t) (spell_term m (plain_term t))
  unfolding spell_term plain_term gap is_not behind_not tokens Within fault refusal too_big too_long is_underscore too_many_variables met meet meet_symbol spaced token_bytes symbol_bytes digits
  plainer_term m (name b) = one _ (λ ts. refl)
  plainer_term m (variable u b) = one _ (λ ts. refl)
  plainer_term m (string b) = one _ (λ ts. refl)
  plainer_term m (number n) = one _ (λ ts. refl)
  plainer_term m (negative zero) = record { within = λ vs w. (w.0, tt); same = λ vs. refl; kept = λ P e a. a.1; fewer = omega arith; shorter = λ r r' k. omega arith }
  plainer_term m (negative (suc n)) = join {l = symbol minus at m ∷ []} (one _ (λ ts. refl)) (one _ (λ ts. refl))
  plainer_term m (anonymous u) = one _ (λ ts. refl)

  -- a symbol other than `not`, and what follows
  behind : (s : Symbol) (m : Mark) {l l' : Spelling} → is_not s ≡ false → Plainer ground l l' → Plainer ground (symbol s at m ∷ l) (symbol s at m ∷ l')
  unfolding gap behind_not
  behind s m e h = join {l = symbol s at m ∷ []} {l' = symbol s at m ∷ []} (one (symbol s at m) (λ ts. rw e)) h

  before : (s : Symbol) {l l' : Spelling} → is_not s ≡ false → Plainer ground l l' → Plainer ground (l ▹ mere s) (l' ▹ mere s)
  unfolding gap behind_not
  before s e h = join h (one (mere s) (λ ts. rw e))

  pub plainer_listed : {A : Type 0} (f : ℕ → A → Spelling) (g : A → A) → ((k : ℕ) (x : A) → Plainer ground (f k x) (f k (g x))) → (xs : Sequence A) → Plainer ground (with_commas f xs) (with_commas f (each g xs))
  unfolding with_commas each is_not
  plainer_listed f g h empty = nothing
  plainer_listed f g h (xs then x) = rw (count_each g xs) (before comma refl (join (plainer_listed f g h xs) (h _ x)))

  -- ---- atoms

  argument_list : (xs : Arguments ground) → Plainer ground (spell_arguments xs) (spell_arguments (plain_arguments xs))
  unfolding spell_arguments plain_arguments tokens Within met meet meet_symbol spaced gap is_not behind_not token_bytes symbol_bytes
  argument_list bare = nothing
  argument_list parentheses = record { within = λ vs w. tt; same = λ vs. refl; kept = λ P e a. tt; fewer = omega arith; shorter = λ r r' k. omega arith }
  argument_list (arguments ts t) = rw (count_each plain_term ts) (before closing refl (behind opening inside refl (join (plainer_listed spell_argument plain_term (λ k x. plainer_term _ x) ts) (plainer_term _ t))))

  signed : (m : Mark) (s : Bool) (b : Bytes) → Plainer ground (spell_signed m s b) (spell_signed m s b)
  unfolding spell_signed gap is_not
  signed m true b = behind minus m refl (one _ (λ ts. refl))
  signed m false b = one _ (λ ts. refl)

  not_signed : (m : Mark) (s : Bool) (b : Bytes) → Plainer ground (symbol not at m ∷ spell_signed inside s b) (symbol not at m ∷ spell_signed inside s b)
  unfolding spell_signed gap is_not behind_not is_word is_word_symbol tokens spaced token_bytes symbol_bytes
  not_signed m true b = record { within = λ vs w. w; same = λ vs. refl; kept = λ P e a. a; fewer = omega arith; shorter = λ r r' k. simp length-append (omega arith) }
  not_signed m false b = record { within = λ vs w. w; same = λ vs. refl; kept = λ P e a. a; fewer = omega arith; shorter = λ r r' k. simp length-append (omega arith) }

  pub plainer_atom : (m : Mark) (x : Atom ground) → Plainer ground (spell_atom m x) (spell_atom m (plain_atom x))
  unfolding spell_atom plain_atom
  plainer_atom m (atom s b xs) = join (signed m s b) (argument_list xs)

  -- ---- literals

  plainer_sign : (r : Sign) → Plainer ground (comparison r at inside ∷ []) (comparison (plain_sign r) at inside ∷ [])
  unfolding plain_sign gap tokens Within fault refusal too_big too_long too_many_variables met meet spaced token_bytes sign_bytes comparison_bytes
  plainer_sign (sign c) = one _ (λ ts. refl)
  plainer_sign <> = record { within = λ vs w. w; same = λ vs. refl; kept = λ P e a. (e, tt); fewer = omega arith; shorter = λ r r' k. omega arith }

  operation : (o : Operation) → Plainer ground (mere (spell_operation o) ∷ []) (mere (spell_operation o) ∷ [])
  unfolding spell_operation gap is_not behind_not
  operation Operation.plus = one _ (λ ts. refl)
  operation Operation.minus = one _ (λ ts. refl)
  operation Operation.times = one _ (λ ts. refl)

  pub plainer_compared : (m : Mark) (t : Term ground) (r : Sign) (u : Term ground) → Plainer ground (spell_compared m t r u) (spell_compared m (plain_term t) (plain_sign r) (plain_term u))
  unfolding spell_compared
  plainer_compared m t r u = join (plainer_term m t) (join (plainer_sign r) (plainer_term inside u))

  pub plainer_literal : (m : Mark) (l : Literal ground) → Plainer ground (spell_literal m l) (spell_literal m (plain_literal l))
  unfolding spell_literal plain_literal spell_atom plain_atom
  plainer_literal m (positive x) = plainer_atom m x
  plainer_literal m (negated (atom s b xs)) = join (not_signed m s b) (argument_list xs)
  plainer_literal m (compared t r u) = plainer_compared m t r u
  plainer_literal m (computed t r u o v) = join (plainer_compared m t r u) (join (operation o) (plainer_term inside v))

  -- ---- rules and programs

  pub plainer_heads : (m : Mark) (hs : Heads ground) → Plainer ground (spell_heads m hs) (spell_heads m (plain_heads hs))
  unfolding spell_heads plain_heads is_not
  plainer_heads m (head x) = plainer_atom m x
  plainer_heads m (also u hs x) = rw (count_heads hs) (join (plainer_heads m hs) (behind bar inside refl (plainer_atom _ x)))

  plainer_head : (m : Mark) (h : Option (Heads ground)) → Plainer ground (spell_head m h) (spell_head m (plain_head h))
  unfolding spell_head plain_head is_not gap behind_not
  plainer_head m none = one _ (λ ts. refl)
  plainer_head m (some hs) = before :- refl (plainer_heads m hs)

  plainer_rule : (m : Mark) (r : Rule ground) → Plainer ground (spell_rule m r) (spell_rule m (plain_rule r))
  unfolding spell_rule plain_rule is_not
  plainer_rule m (fact hs) = before dot refl (plainer_heads m hs)
  plainer_rule m (clause u h ls l) = rw (count_each plain_literal ls) (before dot refl (join (join (plainer_head m h) (plainer_listed spell_nth_literal plain_literal (λ k x. plainer_literal _ x) ls)) (plainer_literal _ l)))

  pub plainer : (p : Program ground) → Plainer ground (spell p) (spell (plain_form p))
  unfolding spell plain_form each
  plainer empty = nothing
  plainer (p then r) = rw (count_each plain_rule p) (join (plainer p) (plainer_rule _ r))
