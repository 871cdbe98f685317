-- The sizes, and with them the two languages: programs and facts lines.
use Rattle.std.specs.Prelude.{Bool, true, false, ◌||◌, cond, [], ℕ, suc, ltb, length}
use Rattle.reading.specs.Reading.{Marked, Language}
use Rattle.grammar.specs.Tokens.{Symbol, underscore, not, minus, opening, closing, comma, dot, :-, plus, times, bar, Token, name, variable, string, number, comparison, symbol, stray}
use Rattle.grammar.specs.Trees.{Program}
use Rattle.grammar.specs.Spelling.{Mark, inside, argument, literal, rule, head, spell}
use Rattle.grammar.specs.Variables.{Variables, with_variable, meet}

abbrev pub most_heads : ℕ
most_heads = 4

abbrev pub most_literals : ℕ
most_literals = 16

abbrev pub most_arguments : ℕ
most_arguments = 8

abbrev pub most_bytes : ℕ
most_bytes = 64

abbrev pub most_variables : ℕ
most_variables = 16

abbrev pub greatest_number : ℕ
greatest_number = 1_000_000_000

-- the rules of a program; the facts of a candidate
abbrev pub most_rules : Bool → ℕ
most_rules false = 256
most_rules true = 1_024

-- a number over its size
unfoldable pub too_big : Token → Bool
too_big (name b) = false
too_big (variable b) = false
too_big (string b) = false
too_big (number n) = ltb greatest_number n
too_big (comparison r) = false
too_big (symbol s) = false
too_big (stray b) = false

-- a name, a variable or a string over its size
unfoldable pub too_long : Token → Bool
too_long (name b) = ltb most_bytes (length b)
too_long (variable b) = ltb most_bytes (length b)
too_long (string b) = ltb most_bytes (length b)
too_long (number n) = false
too_long (comparison r) = false
too_long (symbol s) = false
too_long (stray b) = false

-- the first token of what is too many
unfoldable pub too_many : (ground : Bool) → Mark → Bool
too_many ground inside = false
too_many ground (argument k) = ltb most_arguments k
too_many ground (literal k) = ltb most_literals k
too_many ground (rule k) = ltb (most_rules ground) k
too_many ground (head k) = ltb most_heads k

unfoldable pub is_underscore : Symbol → Bool
is_underscore underscore = true
is_underscore not = false
is_underscore minus = false
is_underscore opening = false
is_underscore closing = false
is_underscore comma = false
is_underscore dot = false
is_underscore :- = false
is_underscore plus = false
is_underscore times = false
is_underscore bar = false

-- a variable that is one too many in its rule, each `_` counting
unfoldable pub too_many_variables : Variables → Token → Bool
too_many_variables vs (name b) = false
too_many_variables vs (variable b) = ltb most_variables (length (with_variable vs b))
too_many_variables vs (string b) = false
too_many_variables vs (number n) = false
too_many_variables vs (comparison r) = false
too_many_variables vs (symbol s) = cond (is_underscore s) (ltb most_variables (suc (length vs))) false
too_many_variables vs (stray b) = false

-- the number of refusal where a number passes its size or not, and another size is passed or not: the lower where both are, 0 where none is
unfoldable pub refusal : Bool → Bool → ℕ
refusal true true = 3
refusal true false = 3
refusal false true = 4
refusal false false = 0

-- the number of refusal of a token, where these variables are met before it
unfoldable pub fault : Bool → Variables → Marked Token Mark → ℕ
fault ground vs p = refusal (too_big p.token) (too_long p.token || too_many ground p.mark || too_many_variables vs p.token)

-- `Reading (language ground)` says what a list of tokens is read as
abbrev pub language : Bool → Language Token Mark
language ground = record { Tree = Program ground; spell = spell; Memory = Variables; fresh = []; see = meet; fault = fault ground }

abbrev pub programs : Language Token Mark
programs = language false

abbrev pub facts_line : Language Token Mark
facts_line = language true
