-- The token at a place, and the first token at or after a place.
use Rattle.std.specs.Prelude.{ℕ, suc, ◌+◌, Bool, false, cond, List, [], ◌∷◌, eqb, length, get_or, drop}
use Rattle.lexis.specs.declared.class.Class.{Class}
use Rattle.lexis.specs.declared.class.Class.TheVariants.{Lower, Upper, Digit, Underscore, Other}
use Rattle.lexis.specs.declared.run.Run.TheVariants.{Word, Digits}
use Rattle.lexis.specs.declared.kind.Kind.{Kind}
use Rattle.lexis.specs.declared.kind.Kind.TheVariants.{Variable, Anonymous, Number, End, Stray, String}
use Rattle.tokens.specs.declared.Token.{Token}
use Rattle.lexis.specs.Class.{class_of}
use Rattle.lexis.specs.Run.{goes_on}
use Rattle.texts.specs.Prefix.{prefix_len}
use Rattle.lexis.specs.Strings.{quote, closing}
use Rattle.tokens.specs.Gap.{gap}
use Rattle.lexis.specs.Kind.{is_stray}
use Rattle.lexis.specs.Spelling.{single_kind, pair_kind, name_kind}
use Rattle.texts.specs.declared.place.Place.{Place}
use Rattle.texts.specs.Place.{place_from, with_len}

-- a token of a kind and a length, that starts where a place does
abbrev pub standing : Kind → Place → ℕ → Token
standing kind at len = record { kind = kind; place = with_len at len }

-- .. that starts at a byte of a text
abbrev pub placed : List ℕ → Kind → ℕ → ℕ → Token
placed text kind start len = standing kind (place_from text start 0) len

-- two bytes are read as one mark where they are one
unfoldable pub mark_at : Place → ℕ → ℕ → Token
mark_at at b c = cond (is_stray (pair_kind b c)) (standing (single_kind b) at 1) (standing (pair_kind b c) at 2)

-- a string that so many bytes behind its opening quote end, or the quote alone where none do
unfoldable pub string_at : Place → ℕ → Token
string_at at end = cond (eqb end 0) (standing Stray at 1) (standing String at (suc end))

-- a string or a mark, by the byte at the place and the bytes after it
unfoldable pub other_at : Place → ℕ → List ℕ → Token
other_at at b rest = cond (eqb b quote) (string_at at (closing false rest)) (mark_at at b (get_or rest 0 0))

-- the longest token at a place, by the class of the byte there, that byte, and the bytes after it
abbrev pub start_at : Place → Class → ℕ → List ℕ → Token
start_at at Lower b rest =
    let len = suc (prefix_len (goes_on Word) rest) in
    standing (name_kind len b (get_or rest 0 0) (get_or rest 1 0)) at len
start_at at Upper b rest = standing Variable at (suc (prefix_len (goes_on Word) rest))
start_at at Digit b rest = standing Number at (cond (eqb b 48) 1 (suc (prefix_len (goes_on Digits) rest)))
start_at at Underscore b rest = standing Anonymous at 1
start_at at Other b rest = other_at at b rest

-- the token at a place of a text, by what is left of the text there
abbrev pub token_from : List ℕ → ℕ → List ℕ → Token
token_from text at [] = placed text End (length text) 0
token_from text at (b ∷ rest) = start_at (place_from text at 0) (class_of b) b rest

-- at the end of the text, and past it, stands the end, empty at the text's length
unfoldable pub token_at : List ℕ → ℕ → Token
token_at text at = token_from text at (drop at text)

-- the first token at or after a place, behind the blanks and comments of a program, or the blanks of a facts line
unfoldable pub next_token : Bool → List ℕ → ℕ → Token
next_token program text at = token_at text (at + gap program (drop at text))
