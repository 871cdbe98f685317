-- Small texts and their tokens, by computation.
use Prim.Native.Nat.{ℕ, suc}
use mathlib.Core.Path.{◌≡◌, refl}
use mathlib.Core.Bool.{Bool, true, false}
use mathlib.Core.List.{List, [], ◌∷◌}
use Rattle.lexis.specs.declared.kind.Kind.{Kind}
use Rattle.lexis.specs.declared.kind.Kind.TheVariants.{Name, Not, Variable, Anonymous, Number, If, Minus, Times, Equal, Unequal, AlsoUnequal, Less, AtMost, AtLeast, Stray, String, Bar}
use Rattle.tokens.specs.declared.Token.{Token}
use Rattle.lexis.specs.Class.{class_of}
use Rattle.lexis.specs.Run.{is_blank}
use Rattle.texts.specs.Prefix.{prefix_len}
use Rattle.tokens.specs.Gap.{starts_comment, gap}
use Rattle.lexis.specs.Strings.{longer, closing}
use Rattle.lexis.specs.Spelling.{single_kind, pair_kind, name_kind}
use Rattle.texts.specs.Place.{newlines, since, line_of, column_of}
use Rattle.tokens.specs.Token.{mark_at, string_at, other_at, token_at, next_token}
use Rattle.tokens.specs.Tokens.{tokens_up_to, tokens_from}

-- a text, whether it is a program or a facts line, and its tokens
record Example : Type 0 where
  program : Bool
  text : List ℕ
  tokens : List Token

-- a token at a line and a column
abbrev token_on : ℕ → ℕ → Kind → ℕ → ℕ → Token
token_on line column kind start len = record { kind = kind; place = record { start = start; len = len; line = line; column = column } }

-- .. on the first line
abbrev placed : Kind → ℕ → ℕ → Token
placed kind start len = token_on 1 (suc start) kind start len

abbrev examples : List Example
examples =
    -- `007` is three numbers
    record { program = true; text = 48 ∷ 48 ∷ 55 ∷ []; tokens = placed Number 0 1 ∷ placed Number 1 1 ∷ placed Number 2 1 ∷ [] } ∷
    -- `1a` is a number and a name
    record { program = true; text = 49 ∷ 97 ∷ []; tokens = placed Number 0 1 ∷ placed Name 1 1 ∷ [] } ∷
    -- `__` is two tokens
    record { program = true; text = 95 ∷ 95 ∷ []; tokens = placed Anonymous 0 1 ∷ placed Anonymous 1 1 ∷ [] } ∷
    -- `X_` is a variable
    record { program = true; text = 88 ∷ 95 ∷ []; tokens = placed Variable 0 2 ∷ [] } ∷
    -- `not nota`
    record { program = true; text = 110 ∷ 111 ∷ 116 ∷ 32 ∷ 110 ∷ 111 ∷ 116 ∷ 97 ∷ []; tokens = placed Not 0 3 ∷ placed Name 4 4 ∷ [] } ∷
    -- `:~`: the `:` is stray, and so is the `~`
    record { program = true; text = 58 ∷ 126 ∷ []; tokens = placed Stray 0 1 ∷ placed Stray 1 1 ∷ [] } ∷
    -- `a!`: the `!` is stray
    record { program = true; text = 97 ∷ 33 ∷ []; tokens = placed Name 0 1 ∷ placed Stray 1 1 ∷ [] } ∷
    -- `<=<>!=>=:-`
    record { program = true; text = 60 ∷ 61 ∷ 60 ∷ 62 ∷ 33 ∷ 61 ∷ 62 ∷ 61 ∷ 58 ∷ 45 ∷ []; tokens = placed AtMost 0 2 ∷ placed AlsoUnequal 2 2 ∷ placed Unequal 4 2 ∷ placed AtLeast 6 2 ∷ placed If 8 2 ∷ [] } ∷
    -- `:--1` is `:-`, `-` and `1`
    record { program = true; text = 58 ∷ 45 ∷ 45 ∷ 49 ∷ []; tokens = placed If 0 2 ∷ placed Minus 2 1 ∷ placed Number 3 1 ∷ [] } ∷
    -- `a||:-|=`: each `|` is a token of its own, and so it is on a facts line
    record { program = true; text = 97 ∷ 124 ∷ 124 ∷ 58 ∷ 45 ∷ 124 ∷ 61 ∷ []; tokens = placed Name 0 1 ∷ placed Bar 1 1 ∷ placed Bar 2 1 ∷ placed If 3 2 ∷ placed Bar 5 1 ∷ placed Equal 6 1 ∷ [] } ∷
    record { program = false; text = 60 ∷ 124 ∷ 45 ∷ []; tokens = placed Less 0 1 ∷ placed Bar 1 1 ∷ placed Minus 2 1 ∷ [] } ∷
    -- a comment ends with its line, and another with the text
    record { program = true; text = 97 ∷ 37 ∷ 98 ∷ 10 ∷ 99 ∷ 37 ∷ []; tokens = placed Name 0 1 ∷ token_on 2 1 Name 4 1 ∷ [] } ∷
    -- `%*` is no comment, and `%%*` is one
    record { program = true; text = 37 ∷ 42 ∷ 10 ∷ 37 ∷ 37 ∷ 42 ∷ []; tokens = placed Stray 0 1 ∷ placed Times 1 1 ∷ [] } ∷
    -- on a facts line `%` is stray
    record { program = false; text = 97 ∷ 37 ∷ 98 ∷ []; tokens = placed Name 0 1 ∷ placed Stray 1 1 ∷ placed Name 2 1 ∷ [] } ∷
    -- and so is a newline, which is a blank in a program; space and tab are blanks on both
    record { program = false; text = 97 ∷ 10 ∷ 98 ∷ []; tokens = placed Name 0 1 ∷ placed Stray 1 1 ∷ token_on 2 1 Name 2 1 ∷ [] } ∷
    record { program = true; text = 97 ∷ 10 ∷ 98 ∷ []; tokens = placed Name 0 1 ∷ token_on 2 1 Name 2 1 ∷ [] } ∷
    record { program = false; text = 32 ∷ 97 ∷ 9 ∷ 98 ∷ []; tokens = placed Name 1 1 ∷ placed Name 3 1 ∷ [] } ∷
    -- `"%"a""`: in a string `%` starts no comment, also on a facts line; and a string may be empty
    record { program = true; text = 34 ∷ 37 ∷ 34 ∷ 97 ∷ 34 ∷ 34 ∷ []; tokens = placed String 0 3 ∷ placed Name 3 1 ∷ placed String 4 2 ∷ [] } ∷
    record { program = false; text = 34 ∷ 37 ∷ 34 ∷ []; tokens = placed String 0 3 ∷ [] } ∷
    -- `"\""`: behind a backslash a quote ends nothing; and with no other the first opens no string, while the second may
    record { program = true; text = 34 ∷ 92 ∷ 34 ∷ 34 ∷ []; tokens = placed String 0 4 ∷ [] } ∷
    record { program = true; text = 34 ∷ 92 ∷ 34 ∷ []; tokens = placed Stray 0 1 ∷ placed Stray 1 1 ∷ placed Stray 2 1 ∷ [] } ∷
    -- `"\a"` and `"\\"`: a backslash stands before a quote alone, and is no escape of its own
    record { program = true; text = 34 ∷ 92 ∷ 97 ∷ 34 ∷ []; tokens = placed Stray 0 1 ∷ placed Stray 1 1 ∷ placed Name 2 1 ∷ placed Stray 3 1 ∷ [] } ∷
    record { program = true; text = 34 ∷ 92 ∷ 92 ∷ 34 ∷ []; tokens = placed Stray 0 1 ∷ placed Stray 1 1 ∷ placed Stray 2 1 ∷ placed Stray 3 1 ∷ [] } ∷
    -- a string ends on its line; NUL, CR, tab and bytes from 128 may stand in it
    record { program = true; text = 34 ∷ 97 ∷ 10 ∷ 34 ∷ []; tokens = placed Stray 0 1 ∷ placed Name 1 1 ∷ token_on 2 1 Stray 3 1 ∷ [] } ∷
    record { program = true; text = 34 ∷ 0 ∷ 13 ∷ 9 ∷ 255 ∷ 34 ∷ []; tokens = placed String 0 6 ∷ [] } ∷
    -- lines count on behind empty ones and behind a comment; a tab, a CR and the bytes of a letter beyond ASCII are a column each
    record { program = true; text = 10 ∷ 37 ∷ 195 ∷ 10 ∷ 9 ∷ 97 ∷ 13 ∷ 10 ∷ 195 ∷ 169 ∷ 98 ∷ []; tokens = token_on 3 2 Name 5 1 ∷ token_on 3 3 Stray 6 1 ∷ token_on 4 1 Stray 8 1 ∷ token_on 4 2 Stray 9 1 ∷ token_on 4 3 Name 10 1 ∷ [] } ∷
    []

abbrev Right : List Example → Type 0
Right [] = Unit {0}
Right (x ∷ xs) = (tokens_from x.program x.text 0 ≡ x.tokens) × Right xs

pub right : Right examples
unfolding class_of is_blank prefix_len starts_comment gap longer closing single_kind pair_kind name_kind mark_at string_at other_at token_at next_token tokens_up_to tokens_from newlines since line_of column_of
right = (refl, (refl, (refl, (refl, (refl, (refl, (refl, (refl, (refl, (refl, (refl, (refl, (refl, (refl, (refl, (refl, (refl, (refl, (refl, (refl, (refl, (refl, (refl, (refl, (refl, (refl, tt))))))))))))))))))))))))))
