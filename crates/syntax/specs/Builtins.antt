-- Built-in atoms from the left term on: where they stand.
use Rattle.std.specs.Prelude.{false, cond, ◌||◌, [], ◌∷◌, ◌++◌, ℕ, eqb}
use Rattle.std.proofs.Math.Option.{none}
use Rattle.meaning.specs.Domain.{Comparison, equal, unequal, less, at_most, greater, at_least, Operation, plus, minus, times}
use Rattle.meaning.specs.Rules.{Term, plain, Literal, builtin, Side}
use Rattle.meaning.specs.Values.{Value}
use Rattle.grammar.specs.Tokens.{Sign, comparison}
use Rattle.grammar.specs.Trees.{Term as TermTree, Literal as Tree, compared, computed}
use Rattle.grammar.specs.Spelling.{inside, Spelling, mere, spell_term, spell_operation}
use Rattle.grammar.specs.Variables.{Variables as Names, met}
use Rattle.grammar.specs.States.{BodyContext, left_in, right_in, term_read}
use Rattle.grammar.specs.Machine.{after_literal}
use Rattle.grammar.specs.Abstraction.{term_for, comparison_for}
use Rattle.syntax.specs.Ahead.{Wants, wants}
use Rattle.syntax.specs.Fills.{Production}

-- by the number of the sign's kind: = != <> < <= >, or else >=
unfoldable pub comparison_of : ℕ → Comparison
comparison_of k =
    cond (eqb k 13) equal
    (cond (eqb k 14 || eqb k 15) unequal
    (cond (eqb k 16) less
    (cond (eqb k 17) at_most
    (cond (eqb k 18) greater
    at_least))))

-- by the number of the mark's kind: - +, or else *
unfoldable pub operation_of : ℕ → Operation
operation_of k = cond (eqb k 10) minus (cond (eqb k 11) plus times)

-- behind a literal: a comma or a dot
abbrev pub behind_literal : BodyContext false → Tree false → Wants false
behind_literal c l = record { next = after_literal c l; whole = none }

-- behind the right term: nothing, or an operation and its operand
pub data Tail : Type 0 where
  nothing : Tail
  operand : Operation → TermTree false → Tail

unfoldable pub with_tail : TermTree false → Sign → TermTree false → Tail → Tree false
with_tail t r u nothing = compared t r u
with_tail t r u (operand o w) = computed t r u o w

unfoldable pub spell_tail : Tail → Spelling
spell_tail nothing = []
spell_tail (operand o w) = mere (spell_operation o) ∷ spell_term inside w

unfoldable pub tail_for : Term Value → Comparison → Term Value → Names → Tail → Literal Value
tail_for t c u vs nothing = builtin c t (plain u)
tail_for t c u vs (operand o w) = builtin c t (Side.computed u o (term_for vs w))

pub record TailPlace : Type 0 where
  pub body : BodyContext false
  pub left : TermTree false
  pub sign : Sign
  pub right : TermTree false

abbrev pub tail_in : Term Value → Comparison → Term Value → Production false
tail_in t c u = record { Context = TailPlace; Tree = Tail; Meant = Literal Value; before = λ h. wants (term_read (right_in h.body h.left h.sign) h.right); behind = λ h x. behind_literal h.body (with_tail h.left h.sign h.right x); spelling = spell_tail; meant = tail_for t c u }

-- behind the left term: a comparison, the right term, and what stands behind it
pub record RightSide : Type 0 where
  pub sign : Sign
  pub right : TermTree false
  pub tail : Tail

pub record SidePlace : Type 0 where
  pub body : BodyContext false
  pub left : TermTree false

abbrev pub spell_side : RightSide → Spelling
spell_side x = record { token = comparison x.sign; mark = inside } ∷ spell_term inside x.right ++ spell_tail x.tail

abbrev pub side_for : Term Value → Names → RightSide → Literal Value
side_for t vs x = tail_for t (comparison_for x.sign) (term_for vs x.right) (met vs (spell_term inside x.right)) x.tail

abbrev pub side_in : Term Value → Production false
side_in t = record { Context = SidePlace; Tree = RightSide; Meant = Literal Value; before = λ h. wants (term_read (left_in h.body) h.left); behind = λ h x. behind_literal h.body (with_tail h.left x.sign x.right x.tail); spelling = spell_side; meant = side_for t }
