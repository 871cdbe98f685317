-- What a token's neighbours decide, by the numbers of their kinds: whether the plain form leaves the token out, and whether a blank stands before it.
-- A proof's tool and no promise.
use Rattle.std.specs.Prelude.{Bool, false, not, ◌&&◌, ◌||◌, cond, [], ◌∷◌, ℕ, leb, eqb}
use Rattle.lexis.specs.declared.kind.Kind.TheVariants.{Number, Open, Close, Minus, Equal, AtLeast, String}
use Rattle.lexis.specs.Kind.{kind_number}
use Rattle.meaning.specs.Rules.{Bytes}

-- made of letters, digits and `_`
abbrev pub word : ℕ → Bool
word kind = leb kind (kind_number Number)

abbrev pub compares : ℕ → Bool
compares kind = leb (kind_number Equal) kind && leb kind (kind_number AtLeast)

-- a minus behind such a token is an operation: a word, `)`, or a string
abbrev pub ends_term : ℕ → Bool
ends_term kind = word kind || (eqb kind (kind_number Close) || eqb kind (kind_number String))

-- by the kinds before, here and behind, and the first byte behind: `(` before `)`, `)` behind `(`, and `-` before the number 0, the one whose
-- first byte is 48, where it is no operation
abbrev pub left_out : (before here behind first : ℕ) → Bool
left_out before here behind first =
    cond (eqb here (kind_number Open)) (eqb behind (kind_number Close))
    (cond (eqb here (kind_number Close)) (eqb before (kind_number Open))
    (cond (eqb here (kind_number Minus)) (not (ends_term before) && (eqb behind (kind_number Number) && eqb first 48))
    false))

-- two words, or two comparisons
abbrev pub runs_together : (last here : ℕ) → Bool
runs_together last here = cond (word last) (word here) (compares last && compares here)

abbrev pub blank_between : (last here : ℕ) → Bytes
blank_between last here = cond (runs_together last here) (32 ∷ []) []
