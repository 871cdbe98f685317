-- Comparisons and operations by the numbers of their kinds.
use mathlib.Core.Path.{◌≡◌, refl}
use mathlib.Core.Bool.{Bool, true, false, ◌&&◌, false≢true}
use Prim.Native.Nat.{ℕ, ◌≤◌}
use native.Mathlib.Omega.{arith}
use lib.Dec.{leb}
use borrow.Author.Tests.{leb-true, le-leb}
use Rattle.lexis.specs.declared.kind.Kind.{Kind}
use Rattle.lexis.specs.declared.kind.Kind.TheVariants.{Name, Not, Variable, Anonymous, Number, Open, Close, Comma, Dot, If, Minus, Plus, Times, Equal, Unequal, AlsoUnequal, Less, AtMost, Greater, AtLeast, End, Stray, String, Bar}
use Rattle.lexis.specs.Kind.{kind_number}
use Rattle.meaning.specs.Domain.{Operation, plus, minus, times}
use Rattle.meaning.specs.Rules.{Bytes}
use Rattle.grammar.specs.Tokens.{Token}
use Rattle.grammar.specs.Spelling.{spell_operation}
use Rattle.grammar.specs.Variables.{Variables as Names, meet_symbol, meet}
use Rattle.grammar.specs.Abstraction.{comparison_for}
use Rattle.grammar.proofs.Numbers.{sign_of}
use Rattle.syntax.specs.Text.{token_of}
use Rattle.syntax.specs.Builtins.{comparison_of}

-- from 13 to 19
pub is_sign : (k : ℕ) → 13 ≤ k → k ≤ 19 → (leb 13 k && leb k 19) ≡ true
is_sign k l h = rw (le-leb 13 k l, le-leb k 19 h)

pub sign_range : (k : ℕ) → (leb 13 k && leb k 19) ≡ true → (13 ≤ k) × (k ≤ 19)
sign_range k e = go (leb 13 k) refl (leb k 19) refl e
  where
    go : (x : Bool) → leb 13 k ≡ x → (y : Bool) → leb k 19 ≡ y → (x && y) ≡ true → (13 ≤ k) × (k ≤ 19)
    go true p true q h = (leb-true 13 k p, leb-true k 19 q)
    go true p false q h = absurd (false≢true h)
    go false p y q h = absurd (false≢true h)

pub signs_agree : (kind : Kind) (b : Bytes) → 13 ≤ kind_number kind → kind_number kind ≤ 19 → comparison_for (sign_of (token_of kind b)) ≡ comparison_of (kind_number kind)
unfolding token_of sign_of comparison_for comparison_of
signs_agree Name b l h = absurd (omega arith)
signs_agree Not b l h = absurd (omega arith)
signs_agree Variable b l h = absurd (omega arith)
signs_agree Anonymous b l h = absurd (omega arith)
signs_agree Number b l h = absurd (omega arith)
signs_agree Open b l h = absurd (omega arith)
signs_agree Close b l h = absurd (omega arith)
signs_agree Comma b l h = absurd (omega arith)
signs_agree Dot b l h = absurd (omega arith)
signs_agree If b l h = absurd (omega arith)
signs_agree Minus b l h = absurd (omega arith)
signs_agree Plus b l h = absurd (omega arith)
signs_agree Times b l h = absurd (omega arith)
signs_agree Equal b l h = refl
signs_agree Unequal b l h = refl
signs_agree AlsoUnequal b l h = refl
signs_agree Less b l h = refl
signs_agree AtMost b l h = refl
signs_agree Greater b l h = refl
signs_agree AtLeast b l h = refl
signs_agree End b l h = absurd (omega arith)
signs_agree Stray b l h = absurd (omega arith)
signs_agree String b l h = absurd (omega arith)
signs_agree Bar b l h = absurd (omega arith)

-- an operation meets no variable
pub no_variable : (vs : Names) (o : Operation) → meet vs (Token.symbol (spell_operation o)) ≡ vs
unfolding meet meet_symbol spell_operation
no_variable vs plus = refl
no_variable vs minus = refl
no_variable vs times = refl
