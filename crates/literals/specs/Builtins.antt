-- Built-in atoms as rows, from the left term on: what the functions that read them promise.
use Rattle.std.specs.Prelude.{◌≡◌, false, List, ℕ, ◌-◌, Result}
use Rattle.texts.specs.declared.refusal.Refused.{Refused}
use Rattle.texts.specs.Places.{places_in}
use Rattle.meaning.specs.Rules.{Bytes, Term, Literal}
use Rattle.meaning.specs.Values.{Value}
use Rattle.codes.specs.Arithmetic.{comparison_at}
use Rattle.names.specs.Table.{names_of}
use Rattle.tables.specs.Coded.{CodedLiteral}
use Rattle.syntax.specs.Fills.{Fills}
use Rattle.syntax.specs.Builtins.{tail_in, side_in}
use Rattle.rows.specs.Coding.{CodedTerm, Codes}
use Rattle.terms.specs.declared.cursor.Cursor.{Cursor}
use Rattle.terms.specs.declared.term.TermRead.{TermRead}
use Rattle.terms.specs.Cursors.{ReadyCursor, met_before, onward}
use Rattle.literals.specs.declared.builtin.LiteralRead.{LiteralRead}
use Rattle.literals.specs.declared.builtin.Sides.{Sides}

-- a cursor in a program
pub record ReadyBehind (program output : Bytes) (names variables : List ℕ) (k : Cursor) : Type 0 where
  pub ready : ReadyCursor program output program names variables k
  pub in_program : k.ground ≡ false

-- the row stands for the literal, beside the table of names afterwards; what has been read began at a place
abbrev pub LiteralStands : Bytes → Bytes → List ℕ → ℕ → LiteralRead → List ℕ → Literal Value → Type 0
LiteralStands program output names at r names' l = Codes program output names (r.behind.start - at) (λ ns. CodedLiteral ns r.row l) names'

-- the number stands for a term that was read before
abbrev pub TermStands : Bytes → Bytes → List ℕ → ℕ → Term Value → Type 0
TermStands program output names c t = CodedTerm (names_of program output names) c t

-- a cursor behind a left term, whose number stands for one
pub record ReadySide (program output : Bytes) (names variables : List ℕ) (k : Cursor) (left : ℕ) : Type 0 where
  pub behind : ReadyBehind program output names variables k
  pub term : Term Value
  pub stands : TermStands program output names left term

-- behind the right term, whatever terms the numbers stand for
abbrev pub ReadsTail : Bytes → Bytes → List ℕ → List ℕ → Cursor → Sides → Result LiteralRead Refused → List ℕ → List ℕ → Type 0
ReadsTail program output names variables k c r names' variables' = (t u : Term Value) → TermStands program output names c.left t → TermStands program output names c.right u → Fills (tail_in t (comparison_at c.comparison) u) false program k.at.start (met_before variables k) r (λ a. a.behind) (λ a. places_in variables' a.met) (λ a. LiteralStands program output names k.at.start a names')

-- behind the left term
abbrev pub ReadsSide : Bytes → Bytes → List ℕ → List ℕ → Cursor → ℕ → Result LiteralRead Refused → List ℕ → List ℕ → Type 0
ReadsSide program output names variables k left r names' variables' = (t : Term Value) → TermStands program output names left t → Fills (side_in t) false program k.at.start (met_before variables k) r (λ a. a.behind) (λ a. places_in variables' a.met) (λ a. LiteralStands program output names k.at.start a names')

-- the cursor behind a left term that has been read
abbrev pub behind_left : Cursor → TermRead → Cursor
behind_left k left = onward k left.behind false left.met
