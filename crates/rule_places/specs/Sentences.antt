-- Where the rules of a program, or the facts of a facts line, stand: each from its first token to its dot.
use Rattle.std.specs.Prelude.{Bool, cond, List, [], ◌∷◌, ℕ, zero, suc, ◌+◌, ◌-◌}
use Rattle.texts.specs.declared.place.Place.{Place}
use Rattle.texts.specs.Place.{with_len}
use Rattle.reading.specs.Reading.{Placed}
use Rattle.meaning.specs.Rules.{Bytes}
use Rattle.grammar.specs.Tokens.{Token}
use Rattle.syntax.specs.Text.{placed_from, end_of}
use Rattle.syntax.specs.Ahead.{ends_rule}

-- the tokens behind the first k dots
unfoldable pub behind_dots : ℕ → List (Placed Place Token) → List (Placed Place Token)
behind_dots zero ts = ts
behind_dots (suc k) [] = []
behind_dots (suc k) (t ∷ ts) = cond (ends_rule t.token) (behind_dots k ts) (behind_dots (suc k) ts)

-- where the first dot ends; the end where there is none
unfoldable pub dot_end : Place → List (Placed Place Token) → ℕ
dot_end end [] = end.start
dot_end end (t ∷ ts) = cond (ends_rule t.token) (t.place.start + t.place.len) (dot_end end ts)

-- from the first token to the first dot; the end where there is no token
unfoldable pub to_dot : Place → List (Placed Place Token) → Place
to_dot end [] = end
to_dot end (t ∷ ts) = with_len t.place (dot_end end (t ∷ ts) - t.place.start)

-- rule k of a text, or fact k of a facts line, counted from 0
unfoldable pub sentence : (ground : Bool) → Bytes → ℕ → Place
sentence ground text k = to_dot (end_of text) (behind_dots k (placed_from ground text 0))
