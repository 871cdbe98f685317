-- Classical atoms: where they stand.
use Rattle.std.specs.Prelude.{◌≡◌, Bool, false, [], ℕ, suc, ◌≤◌}
use Rattle.meaning.specs.Rules.{Bytes, Term, Atom}
use Rattle.meaning.specs.Values.{Value}
use Rattle.grammar.specs.Trees.{Free, count, Arguments as Tree, Atom as AtomTree, atom, Heads, head_count, Program}
use Rattle.grammar.specs.Spelling.{Mark, inside, rule, spell_arguments, spell_atom}
use Rattle.grammar.specs.Abstraction.{atom_for}
use Rattle.grammar.specs.Sizes.{too_many}
use Rattle.grammar.specs.States.{BodyContext, AtomContext, head_behind, head_after, not_in, atom_wanted, atom_minus, named, closed}
use Rattle.grammar.specs.Machine.{else_minus, else_named}
use Rattle.syntax.specs.Text.{token_read}
use Rattle.syntax.specs.Ahead.{wants}
use Rattle.syntax.specs.Fills.{Production}

-- behind a name, where no comparison may follow, or none does
pub record NamedPlace (ground : Bool) (text : Bytes) (at : ℕ) (negative : Bool) (name : Bytes) : Type 0 where
  pub context : AtomContext ground
  pub alone : 13 ≤ (token_read ground text at).kind → (token_read ground text at).kind ≤ 19 → else_named context negative name ≡ []

-- behind a minus, where no number may follow, or none does
pub record MinusPlace (ground : Bool) (text : Bytes) (at : ℕ) : Type 0 where
  pub context : AtomContext ground
  pub alone : (token_read ground text at).kind ≡ 4 → else_minus context ≡ []

-- the first head of a rule that is one too many, or not, where neither `:-` nor the end stands; a head behind others, one too many or not; or
-- behind `not`
pub data AtomPlace (ground over : Bool) (text : Bytes) (at : ℕ) : Type 0 where
  head : (p : Program ground) → too_many ground (rule (suc (count p))) ≡ over → ((token_read ground text at).kind ≡ 9 → ⊥) → ((token_read ground text at).kind ≡ 20 → ⊥) → AtomPlace ground over text at
  also : Free ground → Program ground → (hs : Heads ground) → too_many ground (Mark.head (suc (head_count hs))) ≡ over → AtomPlace ground over text at
  negated : BodyContext ground → over ≡ false → AtomPlace ground over text at

unfoldable pub atom_context : {ground over : Bool} {text : Bytes} {at : ℕ} → AtomPlace ground over text at → AtomContext ground
atom_context (head p s n e) = head_behind p
atom_context (also u p hs s) = head_after u p hs
atom_context (negated c o) = not_in c

abbrev pub named_in : (ground : Bool) → Bytes → ℕ → Bool → Bytes → Production ground
named_in ground text at negative name = record { Context = NamedPlace ground text at negative name; Tree = Tree ground; Meant = Atom (Term Value); before = λ h. wants (named h.context negative name); behind = λ h x. wants (closed h.context (atom negative name x)); spelling = spell_arguments; meant = λ vs x. atom_for vs (atom negative name x) }

abbrev pub minus_in : (ground : Bool) → Bytes → ℕ → Production ground
minus_in ground text at = record { Context = MinusPlace ground text at; Tree = AtomTree ground; Meant = Atom (Term Value); before = λ h. wants (atom_minus h.context); behind = λ h x. wants (closed h.context x); spelling = spell_atom inside; meant = atom_for }

abbrev pub atom_in : (ground over : Bool) → Bytes → ℕ → Production ground
atom_in ground over text at = record { Context = AtomPlace ground over text at; Tree = AtomTree ground; Meant = Atom (Term Value); before = λ h. wants (atom_wanted (atom_context h)); behind = λ h x. wants (closed (atom_context h) x); spelling = spell_atom inside; meant = atom_for }
