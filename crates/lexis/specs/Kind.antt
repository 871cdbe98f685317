-- The number of a token's kind.
use Rattle.std.specs.Prelude.{ℕ, Bool, eqb}
use Rattle.lexis.specs.declared.kind.Kind.{Kind}
use Rattle.lexis.specs.declared.kind.Kind.TheVariants.{Name, Not, Variable, Anonymous, Number, Open, Close, Comma, Dot, If, Minus, Plus, Times, Equal, Unequal, AlsoUnequal, Less, AtMost, Greater, AtLeast, End, Stray, String, Bar}

abbrev pub kind_number : Kind → ℕ
kind_number Name = 0
kind_number Not = 1
kind_number Variable = 2
kind_number Anonymous = 3
kind_number Number = 4
kind_number Open = 5
kind_number Close = 6
kind_number Comma = 7
kind_number Dot = 8
kind_number If = 9
kind_number Minus = 10
kind_number Plus = 11
kind_number Times = 12
kind_number Equal = 13
kind_number Unequal = 14
kind_number AlsoUnequal = 15
kind_number Less = 16
kind_number AtMost = 17
kind_number Greater = 18
kind_number AtLeast = 19
kind_number End = 20
kind_number Stray = 21
kind_number String = 22
kind_number Bar = 23

-- the end of the text
abbrev pub is_end : Kind → Bool
is_end kind = eqb (kind_number kind) 20

-- a byte where no token starts
abbrev pub is_stray : Kind → Bool
is_stray kind = eqb (kind_number kind) 21
