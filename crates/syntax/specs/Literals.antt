-- Literals: where they stand. A facts line has none.
use Rattle.std.specs.Prelude.{◌≡◌, Bool, false, suc}
use Rattle.meaning.specs.Rules.{Literal}
use Rattle.meaning.specs.Values.{Value}
use Rattle.grammar.specs.Trees.{count, Literal as Tree}
use Rattle.grammar.specs.Spelling.{inside, literal, spell_literal}
use Rattle.grammar.specs.Abstraction.{literal_for}
use Rattle.grammar.specs.Sizes.{too_many}
use Rattle.grammar.specs.States.{BodyContext, literal_in, atom_wanted, atom_minus}
use Rattle.syntax.specs.Ahead.{wants}
use Rattle.syntax.specs.Fills.{Production}
use Rattle.syntax.specs.Builtins.{behind_literal}

-- a body whose next literal is one too many, or not
pub record LiteralPlace (over : Bool) : Type 0 where
  pub body : BodyContext false
  pub size : too_many false (literal (suc (count body.literals))) ≡ over

abbrev pub literal_in_body : Bool → Production false
literal_in_body over = record { Context = LiteralPlace over; Tree = Tree false; Meant = Literal Value; before = λ h. wants (atom_wanted (literal_in h.body)); behind = λ h x. behind_literal h.body x; spelling = spell_literal inside; meant = literal_for }

-- behind its minus
abbrev pub minus_literal_in : Production false
minus_literal_in = record { Context = BodyContext false; Tree = Tree false; Meant = Literal Value; before = λ h. wants (atom_minus (literal_in h)); behind = λ h x. behind_literal h x; spelling = spell_literal inside; meant = literal_for }
