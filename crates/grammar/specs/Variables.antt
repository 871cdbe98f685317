-- The variables of a rule, as they are met from left to right.
use Rattle.std.specs.Prelude.{cond, List, [], ◌∷◌, ℕ, suc, ltb, length}
use Rattle.std.proofs.Math.Option.{Option, none, some}
use Rattle.reading.specs.Reading.{◌▹◌}
use Rattle.meaning.specs.Rules.{Bytes}
use Rattle.meaning.specs.Values.{same_bytes}
use Rattle.grammar.specs.Tokens.{Symbol, underscore, not, minus, opening, closing, comma, dot, :-, plus, times, bar, Token, name, variable, string, number, comparison, symbol, stray}
use Rattle.grammar.specs.Spelling.{Spelling}

-- each variable once, in the order of first occurrences; none: a `_`, which is a variable of its own
abbrev pub Variables : Type 0
Variables = List (Option Bytes)

-- the number of a variable: how many are met before it first is
unfoldable pub number_of : Bytes → Variables → ℕ
number_of b [] = 0
number_of b (none ∷ vs) = suc (number_of b vs)
number_of b (some c ∷ vs) = cond (same_bytes b c) 0 (suc (number_of b vs))

-- a variable that is met for the first time is added
unfoldable pub with_variable : Variables → Bytes → Variables
with_variable vs b = cond (ltb (number_of b vs) (length vs)) vs (vs ▹ some b)

-- a dot ends the rule
unfoldable pub meet_symbol : Variables → Symbol → Variables
meet_symbol vs underscore = vs ▹ none
meet_symbol vs not = vs
meet_symbol vs minus = vs
meet_symbol vs opening = vs
meet_symbol vs closing = vs
meet_symbol vs comma = vs
meet_symbol vs dot = []
meet_symbol vs :- = vs
meet_symbol vs plus = vs
meet_symbol vs times = vs
meet_symbol vs bar = vs

-- the variables met behind a token
unfoldable pub meet : Variables → Token → Variables
meet vs (name b) = vs
meet vs (variable b) = with_variable vs b
meet vs (string b) = vs
meet vs (number n) = vs
meet vs (comparison r) = vs
meet vs (symbol s) = meet_symbol vs s
meet vs (stray b) = vs

-- the variables met behind a spelling
unfoldable pub met : Variables → Spelling → Variables
met vs [] = vs
met vs (p ∷ ps) = met (meet vs p.token) ps
