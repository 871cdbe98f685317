-- How a tree is spelled: its tokens in order, each with what begins at it.
use Rattle.std.specs.Prelude.{Bool, true, false, List, [], ◌∷◌, ◌++◌, ℕ, suc}
use Rattle.std.proofs.Math.Option.{Option, none, some}
use Rattle.reading.specs.Reading.{Marked, ◌at◌, ◌▹◌}
use Rattle.meaning.specs.Domain.{Operation}
use Rattle.meaning.specs.Rules.{Bytes}
use Rattle.grammar.specs.Tokens.{Sign, Symbol, underscore, not, minus, opening, closing, comma, dot, :-, plus, times, bar, Token, symbol, comparison}
use Rattle.grammar.specs.Trees.{Sequence, empty, ◌then◌, count, Term, Arguments, bare, parentheses, arguments, Atom, atom, Literal, positive, negated, compared, computed, Heads, also, head_count, Rule, fact, clause, Program}

-- what begins at a token: an argument of its atom, a literal of its body, a rule of its program, each numbered from 1; a head of its rule, from
-- the second on, since the first begins with the rule; or nothing, inside of what it belongs to
pub data Mark : Type 0 where
  inside : Mark
  argument literal rule head : ℕ → Mark

abbrev pub Spelling : Type 0
Spelling = List (Marked Token Mark)

-- a symbol at which nothing begins
abbrev pub mere : Symbol → Marked Token Mark
mere s = symbol s at inside

-- things with a comma behind each; f spells the k-th
unfoldable pub with_commas : {A : Type 0} → (ℕ → A → Spelling) → Sequence A → Spelling
with_commas f empty = []
with_commas f (xs then x) = with_commas f xs ++ f (suc (count xs)) x ▹ mere comma

-- in what follows m is what begins at the first token

unfoldable pub spell_term : {ground : Bool} → Mark → Term ground → Spelling
spell_term m (Term.name b) = Token.name b at m ∷ []
spell_term m (Term.variable u b) = Token.variable b at m ∷ []
spell_term m (Term.string b) = Token.string b at m ∷ []
spell_term m (Term.number n) = Token.number n at m ∷ []
spell_term m (Term.negative n) = symbol minus at m ∷ Token.number n at inside ∷ []
spell_term m (Term.anonymous u) = symbol underscore at m ∷ []

-- the k-th argument
abbrev pub spell_argument : {ground : Bool} → ℕ → Term ground → Spelling
spell_argument k t = spell_term (argument k) t

unfoldable pub spell_arguments : {ground : Bool} → Arguments ground → Spelling
spell_arguments bare = []
spell_arguments parentheses = mere opening ∷ mere closing ∷ []
spell_arguments (arguments ts t) = mere opening ∷ with_commas spell_argument ts ++ spell_argument (suc (count ts)) t ▹ mere closing

-- true: with a minus
unfoldable pub spell_signed : Mark → Bool → Bytes → Spelling
spell_signed m true b = symbol minus at m ∷ Token.name b at inside ∷ []
spell_signed m false b = Token.name b at m ∷ []

unfoldable pub spell_atom : {ground : Bool} → Mark → Atom ground → Spelling
spell_atom m (atom s b xs) = spell_signed m s b ++ spell_arguments xs

unfoldable pub spell_operation : Operation → Symbol
spell_operation Operation.plus = plus
spell_operation Operation.minus = minus
spell_operation Operation.times = times

unfoldable pub spell_compared : {ground : Bool} → Mark → Term ground → Sign → Term ground → Spelling
spell_compared m t r u = spell_term m t ++ comparison r at inside ∷ spell_term inside u

unfoldable pub spell_literal : {ground : Bool} → Mark → Literal ground → Spelling
spell_literal m (positive x) = spell_atom m x
spell_literal m (negated x) = symbol not at m ∷ spell_atom inside x
spell_literal m (compared t r u) = spell_compared m t r u
spell_literal m (computed t r u o v) = spell_compared m t r u ++ mere (spell_operation o) ∷ spell_term inside v

-- the k-th literal
abbrev pub spell_nth_literal : {ground : Bool} → ℕ → Literal ground → Spelling
spell_nth_literal k l = spell_literal (literal k) l

unfoldable pub spell_heads : {ground : Bool} → Mark → Heads ground → Spelling
spell_heads m (Heads.head x) = spell_atom m x
spell_heads m (also u hs x) = spell_heads m hs ++ mere bar ∷ spell_atom (Mark.head (suc (head_count hs))) x

-- `:-`, with the heads before it if there are any
unfoldable pub spell_head : {ground : Bool} → Mark → Option (Heads ground) → Spelling
spell_head m none = symbol :- at m ∷ []
spell_head m (some hs) = spell_heads m hs ▹ mere :-

unfoldable pub spell_rule : {ground : Bool} → Mark → Rule ground → Spelling
spell_rule m (fact hs) = spell_heads m hs ▹ mere dot
spell_rule m (clause u h ls l) = spell_head m h ++ with_commas spell_nth_literal ls ++ spell_nth_literal (suc (count ls)) l ▹ mere dot

unfoldable pub spell : {ground : Bool} → Program ground → Spelling
spell empty = []
spell (p then r) = spell p ++ spell_rule (rule (suc (count p))) r
