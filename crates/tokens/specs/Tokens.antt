-- The tokens of a text, one after the other, each with its place.
use Rattle.std.specs.Prelude.{ℕ, zero, suc, ◌+◌, ◌-◌, ◌≤◌, Bool, true, false, List, [], ◌∷◌, length}
use Rattle.tokens.specs.declared.Token.{Token}
use Rattle.lexis.specs.Kind.{is_end}
use Rattle.tokens.specs.Token.{next_token}

-- where reading goes on behind a token
abbrev pub after : Token → ℕ
after t = t.place.start + t.place.len

-- the first `most` of the tokens from a place on
unfoldable pub tokens_up_to : ℕ → Bool → List ℕ → ℕ → List Token
tokens_up_to zero program text at = []
tokens_up_to (suc most) program text at =
    let t = next_token program text at in
    elim (is_end t.kind) [ true ↦ [] | false ↦ t ∷ tokens_up_to most program text (after t) ]

-- the tokens from a place on, without the end: none where the next one is the end, else the next one and those behind it
-- (`tokens_end`, `tokens_more`; each token has a byte, so there are no more of them than bytes)
unfoldable pub tokens_from : Bool → List ℕ → ℕ → List Token
tokens_from program text at = tokens_up_to (suc (length text - at)) program text at

-- from a place to an end: each token starts where the one before it ended or later, and has a byte
abbrev pub InOrder : ℕ → ℕ → List Token → Type 0
InOrder end at [] = at ≤ end
InOrder end at (t ∷ ts) = (at ≤ t.place.start) × (1 ≤ t.place.len) × InOrder end (after t) ts
