-- Comparisons and results of operations, worked out by hand from documents 01 and 02.
use Prim.Native.String.{String}
use Rattle.std.specs.Prelude.{Bool, true, false, List, [], ◌∷◌, ℤ, pos, negsuc}
use Rattle.meaning.specs.Domain.{Comparison, equal, unequal, less, at_most, greater, at_least, Operation, plus, minus, times}
use Rattle.meaning.specs.Values.{Value, number, name, string}
use Rattle.meaning.specs.Ascii.{ascii}

pub record Compared : Type 0 where
  pub comparison : Comparison
  pub left : Value
  pub right : Value
  pub holds : Bool

abbrev numbers : Comparison → ℤ → ℤ → Bool → Compared
numbers c m n b = record { comparison = c; left = number m; right = number n; holds = b }

abbrev names : Comparison → String → String → Bool → Compared
names c s t b = record { comparison = c; left = name (ascii s); right = name (ascii t); holds = b }

abbrev strings : Comparison → String → String → Bool → Compared
strings c s t b = record { comparison = c; left = string (ascii s); right = string (ascii t); holds = b }

abbrev kinds : Comparison → Value → Value → Bool → Compared
kinds c v w b = record { comparison = c; left = v; right = w; holds = b }

-- `negsuc n` is -(n + 1)
abbrev pub comparisons : List Compared
comparisons =
    numbers equal (negsuc 0) (pos 1) false
    ∷ numbers equal (negsuc 6) (negsuc 6) true
    ∷ numbers unequal (negsuc 0) (pos 1) true
    ∷ numbers unequal (pos 7) (pos 7) false
    ∷ numbers less (negsuc 1) (negsuc 0) true
    ∷ numbers less (pos 2) (negsuc 9) false
    ∷ numbers less (pos 7) (pos 7) false
    ∷ numbers at_most (pos 7) (pos 7) true
    ∷ numbers at_most (pos 10) (pos 9) false
    ∷ numbers greater (pos 0) (negsuc 0) true
    ∷ numbers greater (pos 7) (pos 7) false
    ∷ numbers at_least (pos 7) (pos 7) true
    ∷ numbers at_least (negsuc 4) (negsuc 3) false
    ∷ names equal "north" "north" true
    ∷ names equal "north" "nort" false
    ∷ names unequal "a" "a" false
    ∷ names unequal "a" "b" true
    ∷ names less "south" "southwest" true
    ∷ names less "b" "abc" false
    ∷ names less "u10" "u9" true
    ∷ names less "a" "a" false
    ∷ names at_most "a" "a" true
    ∷ names at_most "southwest" "south" false
    ∷ names greater "b" "abc" true
    ∷ names greater "a" "a" false
    ∷ names at_least "a" "a" true
    ∷ names at_least "south" "southwest" false
    ∷ strings equal "a" "a" true
    ∷ strings equal "a" "a " false
    ∷ strings less "" "a" true
    ∷ strings less "a" "a b" true
    ∷ strings less "a!" "a" false
    ∷ strings less "aAb" "a\\\"b" true
    ∷ strings at_most "b" "a" false
    ∷ strings greater "Z" "a" false
    ∷ kinds unequal (number (pos 7)) (name (ascii "north")) true
    ∷ kinds equal (number (pos 7)) (name (ascii "7")) false
    ∷ kinds less (number (pos 1_000_000_000)) (name (ascii "a")) true
    ∷ kinds at_most (name (ascii "a")) (number (pos 0)) false
    ∷ kinds greater (name (ascii "a")) (number (pos 0)) true
    ∷ kinds at_least (number (pos 0)) (name (ascii "a")) false
    ∷ kinds equal (name (ascii "a")) (string (ascii "a")) false
    ∷ kinds unequal (string (ascii "a")) (name (ascii "a")) true
    ∷ kinds less (name (ascii "z")) (string (ascii "")) true
    ∷ kinds at_least (name (ascii "z")) (string (ascii "")) false
    ∷ kinds unequal (number (pos 1)) (string (ascii "1")) true
    ∷ kinds greater (string (ascii "1")) (number (pos 2)) true
    ∷ kinds at_most (string (ascii "1")) (number (pos 2)) false
    ∷ []

pub record Operated : Type 0 where
  pub operation : Operation
  pub left : ℤ
  pub right : ℤ
  pub result : ℤ

abbrev operated : ℤ → Operation → ℤ → ℤ → Operated
operated m o n r = record { operation = o; left = m; right = n; result = r }

abbrev pub results : List Operated
results =
    operated (pos 2) plus (negsuc 4) (negsuc 2)
    ∷ operated (pos 2) minus (pos 5) (negsuc 2)
    ∷ operated (negsuc 1) minus (negsuc 4) (pos 3)
    ∷ operated (negsuc 2) times (pos 4) (negsuc 11)
    ∷ operated (negsuc 2) times (negsuc 3) (pos 12)
    ∷ []
