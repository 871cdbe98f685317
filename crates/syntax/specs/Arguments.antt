-- Arguments: where they stand, and what separates one of several things from the next.
use Rattle.std.specs.Prelude.{◌≡◌, Bool, true, false, List, ℕ, Result, Ok, Err}
use Rattle.texts.specs.declared.refusal.Refusal.TheVariants.{Misplaced}
use Rattle.texts.specs.declared.refusal.Refused.{Refused}
use Rattle.texts.specs.Place.{past}
use Rattle.meaning.specs.Rules.{Bytes, Term}
use Rattle.meaning.specs.Values.{Value}
use Rattle.grammar.specs.Trees.{Arguments as Tree, atom}
use Rattle.grammar.specs.Spelling.{spell_arguments}
use Rattle.grammar.specs.Abstraction.{arguments_for}
use Rattle.grammar.specs.States.{AtomContext, opened, closed}
use Rattle.syntax.specs.declared.separator.Separator.{Separator}
use Rattle.syntax.specs.Text.{token_read}
use Rattle.syntax.specs.Ahead.{wants}
use Rattle.syntax.specs.Fills.{Production}

-- the atom of the arguments: where it stands, its sign and its name
pub record ArgumentsPlace (ground : Bool) : Type 0 where
  pub context : AtomContext ground
  pub negative : Bool
  pub name : Bytes

-- behind the opening parenthesis, with the closing one
abbrev pub arguments_in : (ground : Bool) → Production ground
arguments_in ground = record { Context = ArgumentsPlace ground; Tree = Tree ground; Meant = List (Term Value); before = λ h. wants (opened h.context h.negative h.name); behind = λ h x. wants (closed h.context (atom h.negative h.name x)); spelling = spell_arguments; meant = arguments_for }

-- ---- what the function that reads a separator answers

-- the next token is a comma, or else the mark of a list's end
pub record Separated (ground : Bool) (text : Bytes) (at mark : ℕ) (s : Separator) : Type 0 where
  pub behind : s.behind ≡ past (token_read ground text at).place
  pub comma : s.last ≡ false → (token_read ground text at).kind ≡ 7
  pub last : s.last ≡ true → ((token_read ground text at).kind ≡ 7 → ⊥) × ((token_read ground text at).kind ≡ mark)

-- or neither
pub record NotSeparated (ground : Bool) (text : Bytes) (at mark : ℕ) (e : Refused) : Type 0 where
  pub no_comma : (token_read ground text at).kind ≡ 7 → ⊥
  pub no_mark : (token_read ground text at).kind ≡ mark → ⊥
  pub is_refused : e ≡ record { refusal = Misplaced; place = (token_read ground text at).place }

abbrev pub Separates : Bool → Bytes → ℕ → ℕ → Result Separator Refused → Type 0
Separates ground text at mark (Ok s) = Separated ground text at mark s
Separates ground text at mark (Err e) = NotSeparated ground text at mark e
