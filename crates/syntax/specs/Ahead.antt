-- What lies ahead from a place of a text: the answer of the grammar's machine, the first occurrences of variables as far as the rule's dot,
-- the dot, and the tokens behind it.
use Rattle.std.specs.Prelude.{Bool, true, false, cond, List, [], ◌∷◌, ◌++◌, ℕ, eqb, ltb, length}
use Rattle.std.proofs.Math.Option.{Option, none, some}
use Rattle.texts.specs.declared.place.Place.{Place}
use Rattle.reading.specs.Reading.{Placed, Answer}
use Rattle.reading.specs.Machine.{Step, Machine, walk}
use Rattle.meaning.specs.Rules.{Bytes}
use Rattle.grammar.specs.Tokens.{Token}
use Rattle.grammar.specs.Trees.{empty, Program}
use Rattle.grammar.specs.Spelling.{Mark}
use Rattle.grammar.specs.Variables.{Variables as Names, meet}
use Rattle.grammar.specs.Sizes.{language}
use Rattle.grammar.specs.States.{State, atom_wanted, head_behind}
use Rattle.grammar.specs.Moves.{Move, token_number, try}
use Rattle.grammar.specs.Machine.{moves, finished}
use Rattle.syntax.specs.Variables.{variables_of}
use Rattle.syntax.specs.Text.{placed_from, end_of}

-- what may stand next: the moves on a token, and the program, where the text may end
pub record Wants (ground : Bool) : Type 0 where
  pub next : List (Move (State ground))
  pub whole : Option (Program ground)

abbrev pub wants : {ground : Bool} → State ground → Wants ground
wants s = record { next = moves s; whole = finished s }

unfoldable pub wants_behind : {ground : Bool} → Option (Step (State ground) Mark) → Option (Step (Wants ground) Mark)
wants_behind none = none
wants_behind (some x) = some (record { mark = x.mark; state = wants x.state })

-- the grammar's machine, a state being what it wants next (`same_walk`)
abbrev pub wanting : (ground : Bool) → Machine Token Mark (Program ground)
wanting ground = record { State = Wants ground; begin = wants (atom_wanted (head_behind empty)); step = λ w t. wants_behind (try w.next t); finished = λ w. w.whole }

-- a dot ends the rule
abbrev pub ends_rule : Token → Bool
ends_rule t = eqb (token_number t) 8

-- a token at which a variable is met for the first time
abbrev pub is_first : Names → Token → Bool
is_first vs t = ltb (length vs) (length (meet vs t))

unfoldable pub if_first : Bool → Place → List Place
if_first true p = p ∷ []
if_first false p = []

-- the places of the first occurrences, where these variables have been met, as far as the rule's dot
unfoldable pub firsts : Names → List (Placed Place Token) → List Place
firsts vs [] = []
firsts vs (t ∷ ts) = cond (ends_rule t.token) [] (if_first (is_first vs t.token) t.place ++ firsts (meet vs t.token) ts)

-- the tokens behind the rule's dot, if it has one
unfoldable pub behind_dot : List (Placed Place Token) → Option (List (Placed Place Token))
behind_dot [] = none
behind_dot (t ∷ ts) = cond (ends_rule t.token) (some ts) (behind_dot ts)

-- where the rule's dot stands, if it has one
unfoldable pub dot_at : List (Placed Place Token) → Option Place
dot_at [] = none
dot_at (t ∷ ts) = cond (ends_rule t.token) (some t.place) (dot_at ts)

pub record Ahead (ground : Bool) : Type 0 where
  pub answer : Answer Place (Program ground)
  pub firsts : List Place
  pub rest : Option (List (Placed Place Token))
  pub dot : Option Place

-- v: the variables met before
abbrev pub from : (ground : Bool) → Bytes → Wants ground → List Place → ℕ → Ahead ground
from ground text w v at =
    record {
      answer = walk (language ground) (wanting ground) w (variables_of text v) (end_of text) (placed_from ground text at);
      firsts = v ++ firsts (variables_of text v) (placed_from ground text at);
      rest = behind_dot (placed_from ground text at);
      dot = dot_at (placed_from ground text at);
    }
