-- What a piece of a text is as a token.
use Rattle.std.specs.Prelude.{ℕ, suc, Bool, true, false, cond, ◌&&◌, List, [], ◌∷◌, eqb, length, get_or}
use Rattle.lexis.specs.declared.class.Class.{Class}
use Rattle.lexis.specs.declared.class.Class.TheVariants.{Lower, Upper, Digit, Underscore, Other}
use Rattle.lexis.specs.declared.kind.Kind.{Kind}
use Rattle.lexis.specs.declared.kind.Kind.TheVariants.{Name, Not, Variable, Anonymous, Number, Open, Close, Comma, Dot, If, Minus, Plus, Times, Equal, Unequal, AlsoUnequal, Less, AtMost, Greater, AtLeast, Stray, String, Bar}
use Rattle.lexis.specs.declared.run.Run.TheVariants.{Word, Digits}
use Rattle.lexis.specs.Class.{class_of}
use Rattle.lexis.specs.Run.{goes_on}
use Rattle.lexis.specs.Strings.{quote, closing}
use Rattle.texts.specs.Prefix.{every}

-- ---- marks

-- of one byte: ( ) , . - + * = < > |
unfoldable pub single_kind : ℕ → Kind
single_kind b =
    cond (eqb b 40) Open
    (cond (eqb b 41) Close
    (cond (eqb b 44) Comma
    (cond (eqb b 46) Dot
    (cond (eqb b 45) Minus
    (cond (eqb b 43) Plus
    (cond (eqb b 42) Times
    (cond (eqb b 61) Equal
    (cond (eqb b 60) Less
    (cond (eqb b 62) Greater
    (cond (eqb b 124) Bar
    Stray))))))))))

-- of two bytes: :- != <= >= <>
unfoldable pub pair_kind : ℕ → ℕ → Kind
pair_kind b c =
    cond (eqb b 58 && eqb c 45) If
    (cond (eqb b 33 && eqb c 61) Unequal
    (cond (eqb b 60 && eqb c 61) AtMost
    (cond (eqb b 62 && eqb c 61) AtLeast
    (cond (eqb b 60 && eqb c 62) AlsoUnequal
    Stray))))

-- a byte and the bytes after it
abbrev pub mark_kind : ℕ → List ℕ → Kind
mark_kind b [] = single_kind b
mark_kind b (c ∷ []) = pair_kind b c
mark_kind b (c ∷ d ∷ rest) = Stray

-- ---- words and numbers

-- a word of so many bytes that starts with a lower letter, by its first three bytes: a name, or `not`
unfoldable pub name_kind : ℕ → ℕ → ℕ → ℕ → Kind
name_kind len a b c = cond (eqb len 3 && (eqb a 110 && (eqb b 111 && eqb c 116))) Not Name

-- `0`, or digits that start with 1 to 9: whether the first is a 0, and those after it
abbrev pub number_kind : Bool → List ℕ → Kind
number_kind true [] = Number
number_kind true (b ∷ rest) = Stray
number_kind false rest = cond (every (goes_on Digits) rest) Number Stray

-- `_` alone
abbrev pub anonymous_kind : List ℕ → Kind
anonymous_kind [] = Anonymous
anonymous_kind (b ∷ rest) = Stray

-- ---- strings

-- the bytes behind a quote, as far as the one that closes the string
abbrev pub string_kind : List ℕ → Kind
string_kind [] = Stray
string_kind (b ∷ rest) = cond (eqb (closing false (b ∷ rest)) (suc (length rest))) String Stray

-- ---- the whole piece: one token of this kind, or `Stray` where it is none

-- by the class of the first byte, that byte, and the bytes after it
abbrev pub kind_from : Class → ℕ → List ℕ → Kind
kind_from Lower b rest = cond (every (goes_on Word) rest) (name_kind (suc (length rest)) b (get_or rest 0 0) (get_or rest 1 0)) Stray
kind_from Upper b rest = cond (every (goes_on Word) rest) Variable Stray
kind_from Digit b rest = number_kind (eqb b 48) rest
kind_from Underscore b rest = anonymous_kind rest
kind_from Other b rest = cond (eqb b quote) (string_kind rest) (mark_kind b rest)

unfoldable pub kind_of : List ℕ → Kind
kind_of [] = Stray
kind_of (b ∷ rest) = kind_from (class_of b) b rest
