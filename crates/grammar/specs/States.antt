-- The states of the machine that reads by the grammar, a proof's tool and no promise: a state is the part of the tree that has been read.
use Rattle.std.specs.Prelude.{Bool, suc}
use Rattle.std.proofs.Math.Option.{Option}
use Rattle.meaning.specs.Domain.{Operation}
use Rattle.meaning.specs.Rules.{Bytes}
use Rattle.grammar.specs.Tokens.{Sign}
use Rattle.grammar.specs.Trees.{Free, Sequence, count, Term, Atom, Literal, Heads, head_count, Program}
use Rattle.grammar.specs.Spelling.{Mark, inside, argument, literal, rule}

-- ---- contexts

-- a body: behind which rules and heads it stands, and the literals before the next
pub record BodyContext (ground : Bool) : Type 0 where
  pub free : Free ground
  pub rules : Program ground
  pub head : Option (Heads ground)
  pub literals : Sequence (Literal ground)

-- where an atom stands: as the first head of the rule behind these, as a head behind these and `|`, as a literal, behind `not`
pub data AtomContext (ground : Bool) : Type 0 where
  head_behind : Program ground → AtomContext ground
  head_after : Free ground → Program ground → Heads ground → AtomContext ground
  literal_in not_in : BodyContext ground → AtomContext ground

-- where a term stands: as an argument behind these, on the left of a comparison, on its right, behind an operation
pub data TermContext (ground : Bool) : Type 0 where
  argument_in : AtomContext ground → Bool → Bytes → Sequence (Term ground) → TermContext ground
  left_in : BodyContext ground → TermContext ground
  right_in : BodyContext ground → Term ground → Sign → TermContext ground
  operand_in : BodyContext ground → Term ground → Sign → Term ground → Operation → TermContext ground

pub data State (ground : Bool) : Type 0 where
  -- an atom is wanted: in a first head's place any rule may begin or the text may end, and in a literal's place any literal may begin
  atom_wanted : AtomContext ground → State ground
  -- its name is wanted, behind a minus
  atom_minus : AtomContext ground → State ground
  -- behind its name; behind its opening parenthesis
  named opened : AtomContext ground → Bool → Bytes → State ground
  -- behind its closing parenthesis
  closed : AtomContext ground → Atom ground → State ground
  -- a term is wanted; its number is wanted, behind a minus
  term_wanted term_minus : TermContext ground → State ground
  -- behind a term
  term_read : TermContext ground → Term ground → State ground

-- ---- what begins where an atom or a term is wanted

unfoldable pub atom_mark : {ground : Bool} → AtomContext ground → Mark
atom_mark (head_behind p) = rule (suc (count p))
atom_mark (head_after u p hs) = Mark.head (suc (head_count hs))
atom_mark (literal_in c) = literal (suc (count c.literals))
atom_mark (not_in c) = inside

unfoldable pub term_mark : {ground : Bool} → TermContext ground → Mark
term_mark (argument_in a s b ts) = argument (suc (count ts))
term_mark (left_in c) = atom_mark (literal_in c)
term_mark (right_in c t r) = inside
term_mark (operand_in c t r u o) = inside
