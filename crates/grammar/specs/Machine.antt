-- The machine that reads by the grammar, a proof's tool and no promise: what may stand next at each state, and the state behind it.
use Rattle.std.specs.Prelude.{Bool, true, false, List, [], ◌∷◌, ◌++◌}
use Rattle.std.proofs.Math.Option.{Option, none, some}
use Rattle.reading.specs.Machine.{Step, Machine}
use Rattle.meaning.specs.Domain.{Operation}
use Rattle.meaning.specs.Rules.{Bytes}
use Rattle.grammar.specs.Tokens.{underscore, not, minus, opening, closing, comma, dot, :-, plus, times, bar, Token}
use Rattle.grammar.specs.Trees.{Free, empty, ◌then◌, Term, name, variable, string, number, negative, anonymous, bare, parentheses, arguments, Atom, atom, Literal, positive, negated, compared, computed, Heads, head, also, fact, clause, Program}
use Rattle.grammar.specs.Spelling.{Mark, inside}
use Rattle.grammar.specs.Moves.{Move, on_name, on_variable, on_string, on_number, on_comparison, on, free_moves, try}
use Rattle.grammar.specs.States.{BodyContext, AtomContext, head_behind, head_after, literal_in, not_in, TermContext, argument_in, left_in, right_in, operand_in, State, atom_wanted, atom_minus, named, opened, closed, term_wanted, term_minus, term_read, atom_mark, term_mark}

-- a body behind which nothing has been read yet; with one more literal; as a rule, with its last literal
abbrev pub new_body : {ground : Bool} → Free ground → Program ground → Option (Heads ground) → BodyContext ground
new_body u p h = record { free = u; rules = p; head = h; literals = empty }

abbrev pub with_literal : {ground : Bool} → BodyContext ground → Literal ground → BodyContext ground
with_literal c l = record { free = c.free; rules = c.rules; head = c.head; literals = c.literals then l }

abbrev pub with_rule : {ground : Bool} → BodyContext ground → Literal ground → Program ground
with_rule c l = c.rules then clause c.free c.head c.literals l

unfoldable pub after_literal : {ground : Bool} → BodyContext ground → Literal ground → List (Move (State ground))
after_literal c l = on inside comma (atom_wanted (literal_in (with_literal c l))) ∷ on inside dot (atom_wanted (head_behind (with_rule c l))) ∷ []

unfoldable pub after_heads : {ground : Bool} → Program ground → Heads ground → List (Move (State ground))
after_heads {ground} p hs = on inside dot (atom_wanted (head_behind (p then fact hs))) ∷ free_moves ground (λ u. on inside :- (atom_wanted (literal_in (new_body u p (some hs)))) ∷ on inside bar (atom_wanted (head_after u p hs)) ∷ [])

unfoldable pub after_atom : {ground : Bool} → AtomContext ground → Atom ground → List (Move (State ground))
after_atom (head_behind p) x = after_heads p (head x)
after_atom (head_after u p hs) x = after_heads p (also u hs x)
after_atom (literal_in c) x = after_literal c (positive x)
after_atom (not_in c) x = after_literal c (negated x)

unfoldable pub after_term : {ground : Bool} → TermContext ground → Term ground → List (Move (State ground))
after_term (argument_in a s b ts) t = on inside comma (term_wanted (argument_in a s b (ts then t))) ∷ on inside closing (closed a (atom s b (arguments ts t))) ∷ []
after_term (left_in c) t = on_comparison (λ r. term_wanted (right_in c t r)) ∷ []
after_term (right_in c t r) u = on inside plus (term_wanted (operand_in c t r u Operation.plus)) ∷ on inside minus (term_wanted (operand_in c t r u Operation.minus)) ∷ on inside times (term_wanted (operand_in c t r u Operation.times)) ∷ after_literal c (compared t r u)
after_term (operand_in c t r u o) v = after_literal c (computed t r u o v)

-- what else than an atom may begin
unfoldable pub else_wanted : {ground : Bool} → AtomContext ground → List (Move (State ground))
else_wanted {ground} (head_behind p) = free_moves ground (λ u. on (atom_mark (head_behind p)) :- (atom_wanted (literal_in (new_body u p none))) ∷ [])
else_wanted (head_after u p hs) = []
else_wanted (literal_in c) = let m = atom_mark (literal_in c) in on_variable m (λ b. term_read (left_in c) (variable c.free b)) ∷ on_string m (λ b. term_read (left_in c) (string b)) ∷ on_number m (λ n. term_read (left_in c) (number n)) ∷ on m underscore (term_read (left_in c) (anonymous c.free)) ∷ on m not (atom_wanted (not_in c)) ∷ []
else_wanted (not_in c) = []

-- a literal that begins with a minus may be a comparison with a number on its left
unfoldable pub else_minus : {ground : Bool} → AtomContext ground → List (Move (State ground))
else_minus (head_behind p) = []
else_minus (head_after u p hs) = []
else_minus (literal_in c) = on_number inside (λ n. term_read (left_in c) (negative n)) ∷ []
else_minus (not_in c) = []

-- a literal that begins with a name may be a comparison with that name on its left
unfoldable pub else_named : {ground : Bool} → AtomContext ground → Bool → Bytes → List (Move (State ground))
else_named (head_behind p) s b = []
else_named (head_after u p hs) s b = []
else_named (literal_in c) true b = []
else_named (literal_in c) false b = on_comparison (λ r. term_wanted (right_in c (name b) r)) ∷ []
else_named (not_in c) s b = []

unfoldable pub a_term : {ground : Bool} → TermContext ground → List (Move (State ground))
a_term {ground} h = let m = term_mark h in on_name m (λ b. term_read h (name b)) ∷ on_string m (λ b. term_read h (string b)) ∷ on_number m (λ n. term_read h (number n)) ∷ on m minus (term_minus h) ∷ free_moves ground (λ u. on_variable m (λ b. term_read h (variable u b)) ∷ on m underscore (term_read h (anonymous u)) ∷ [])

unfoldable pub moves : {ground : Bool} → State ground → List (Move (State ground))
moves (atom_wanted a) = let m = atom_mark a in on_name m (named a false) ∷ on m minus (atom_minus a) ∷ else_wanted a
moves (atom_minus a) = on_name inside (named a true) ∷ else_minus a
moves (named a s b) = on inside opening (opened a s b) ∷ else_named a s b ++ after_atom a (atom s b bare)
moves (opened a s b) = on inside closing (closed a (atom s b parentheses)) ∷ a_term (argument_in a s b empty)
moves (closed a x) = after_atom a x
moves (term_wanted h) = a_term h
moves (term_minus h) = on_number inside (λ n. term_read h (negative n)) ∷ []
moves (term_read h t) = after_term h t

unfoldable pub step : {ground : Bool} → State ground → Token → Option (Step (State ground) Mark)
step s t = try (moves s) t

-- ---- the machine

unfoldable pub finished_atom : {ground : Bool} → AtomContext ground → Option (Program ground)
finished_atom (head_behind p) = some p
finished_atom (head_after u p hs) = none
finished_atom (literal_in c) = none
finished_atom (not_in c) = none

unfoldable pub finished : {ground : Bool} → State ground → Option (Program ground)
finished (atom_wanted a) = finished_atom a
finished (atom_minus a) = none
finished (named a s b) = none
finished (opened a s b) = none
finished (closed a x) = none
finished (term_wanted h) = none
finished (term_minus h) = none
finished (term_read h t) = none

abbrev pub machine : (ground : Bool) → Machine Token Mark (Program ground)
machine ground = record { State = State ground; begin = atom_wanted (head_behind empty); step = step; finished = finished }
