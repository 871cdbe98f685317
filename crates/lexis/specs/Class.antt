-- The class of a byte, by its value.
use Rattle.std.specs.Prelude.{ℕ, Bool, true, false, cond, ◌&&◌, leb, eqb}
use Rattle.lexis.specs.declared.class.Class.{Class}
use Rattle.lexis.specs.declared.class.Class.TheVariants.{Lower, Upper, Digit, Underscore, Other}

-- a to z, A to Z, 0 to 9, the underscore, and one answer for every other byte
unfoldable pub class_of : ℕ → Class
class_of b =
    cond (leb 97 b && leb b 122) Lower
    (cond (leb 65 b && leb b 90) Upper
    (cond (leb 48 b && leb b 57) Digit
    (cond (eqb b 95) Underscore
    Other)))

-- a letter, a digit or an underscore: what a name and a variable go on with
abbrev pub is_word_class : Class → Bool
is_word_class Lower = true
is_word_class Upper = true
is_word_class Digit = true
is_word_class Underscore = true
is_word_class Other = false

abbrev pub is_digit : Class → Bool
is_digit Lower = false
is_digit Upper = false
is_digit Digit = true
is_digit Underscore = false
is_digit Other = false
