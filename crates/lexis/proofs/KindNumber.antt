-- Laws of `kind_number`: a kind is known by its number.
use Prim.Native.Nat.{ℕ, ◌≤◌}
use native.Mathlib.Omega.{arith}
use mathlib.Core.Bool.{true}
use mathlib.Core.Path.{◌≡◌, refl, sym, ap, ◌∙◌}
use mathlib.Core.List.{[], ◌∷◌}
use lib.ListN.{get_or}
use borrow.Author.Tests.{eqb-true}
use Rattle.lexis.specs.declared.kind.Kind.{Kind}
use Rattle.lexis.specs.declared.kind.Kind.TheVariants.{Name, Not, Variable, Anonymous, Number, Open, Close, Comma, Dot, If, Minus, Plus, Times, Equal, Unequal, AlsoUnequal, Less, AtMost, Greater, AtLeast, End, Stray, String, Bar}
use Rattle.lexis.specs.Kind.{kind_number, is_end, is_stray}

-- the kind of a number
abbrev pub kind_at : ℕ → Kind
kind_at n = get_or (Name ∷ Not ∷ Variable ∷ Anonymous ∷ Number ∷ Open ∷ Close ∷ Comma ∷ Dot ∷ If ∷ Minus ∷ Plus ∷ Times ∷ Equal ∷ Unequal ∷ AlsoUnequal ∷ Less ∷ AtMost ∷ Greater ∷ AtLeast ∷ End ∷ Stray ∷ String ∷ Bar ∷ []) n Stray

pub kind_at_number : (kind : Kind) → kind_at (kind_number kind) ≡ kind
kind_at_number Name = refl
kind_at_number Not = refl
kind_at_number Variable = refl
kind_at_number Anonymous = refl
kind_at_number Number = refl
kind_at_number Open = refl
kind_at_number Close = refl
kind_at_number Comma = refl
kind_at_number Dot = refl
kind_at_number If = refl
kind_at_number Minus = refl
kind_at_number Plus = refl
kind_at_number Times = refl
kind_at_number Equal = refl
kind_at_number Unequal = refl
kind_at_number AlsoUnequal = refl
kind_at_number Less = refl
kind_at_number AtMost = refl
kind_at_number Greater = refl
kind_at_number AtLeast = refl
kind_at_number End = refl
kind_at_number Stray = refl
kind_at_number String = refl
kind_at_number Bar = refl

pub kind_by_number : (kind : Kind) (n : ℕ) → kind_number kind ≡ n → kind ≡ kind_at n
kind_by_number kind n e = sym (kind_at_number kind) ∙ ap kind_at e

pub same_number : (k l : Kind) → kind_number k ≡ kind_number l → k ≡ l
same_number k l e = kind_by_number k (kind_number l) e ∙ kind_at_number l

pub is_end_lem : (kind : Kind) → is_end kind ≡ true → kind ≡ End
is_end_lem kind e = kind_by_number kind 20 (eqb-true (kind_number kind) 20 e)

pub is_stray_lem : (kind : Kind) → is_stray kind ≡ true → kind ≡ Stray
is_stray_lem kind e = kind_by_number kind 21 (eqb-true (kind_number kind) 21 e)

-- `|` has the greatest
pub at_most_bar : (kind : Kind) → kind_number kind ≤ 23
at_most_bar Name = omega arith
at_most_bar Not = omega arith
at_most_bar Variable = omega arith
at_most_bar Anonymous = omega arith
at_most_bar Number = omega arith
at_most_bar Open = omega arith
at_most_bar Close = omega arith
at_most_bar Comma = omega arith
at_most_bar Dot = omega arith
at_most_bar If = omega arith
at_most_bar Minus = omega arith
at_most_bar Plus = omega arith
at_most_bar Times = omega arith
at_most_bar Equal = omega arith
at_most_bar Unequal = omega arith
at_most_bar AlsoUnequal = omega arith
at_most_bar Less = omega arith
at_most_bar AtMost = omega arith
at_most_bar Greater = omega arith
at_most_bar AtLeast = omega arith
at_most_bar End = omega arith
at_most_bar Stray = omega arith
at_most_bar String = omega arith
at_most_bar Bar = omega arith
