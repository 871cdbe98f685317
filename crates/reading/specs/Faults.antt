-- Which token is at fault, by its position in a list of tokens.
use Rattle.std.specs.Prelude.{◌≡◌, ◌⊎◌, List, [], ◌∷◌, ◌++◌, ℕ, zero, suc, ◌≤◌, ◌<◌, length, take}
use Rattle.reading.specs.Reading.{Marked, ◌▹◌, Placed, tokens, unplaced, Language, seen, Begins, TokensBegin, TokensAre}

-- the place of the token at a position, and of the end behind the last
unfoldable pub place_at : {P T : Type 0} → P → List (Placed P T) → ℕ → P
place_at end [] k = end
place_at end (t ∷ ts) zero = t.place
place_at end (t ∷ ts) (suc k) = place_at end ts k

module _ {T M : Type 0} (L : Language T M) where
  -- no tree begins with the tokens as far as this one; or one does, and this one passes a size
  pub data AtFault (ts : List T) : ℕ → Type 0 where
    cannot : (before : List T) (t : T) (after : List T) → before ++ t ∷ after ≡ ts → ¬ TokensBegin L (before ▹ t) → AtFault ts (length before)
    passes : (before : List (Marked T M)) (p : Marked T M) (after : List T) → tokens before ++ p.token ∷ after ≡ ts → Begins L (before ▹ p) → (n : ℕ) → L.fault (seen L L.fresh (tokens before)) p ≡ suc n → AtFault ts (length before)

  -- q is the place of the leftmost token at fault, or of the end
  pub record Leftmost {P : Type 0} (end : P) (ts : List (Placed P T)) (q : P) : Type 0 where
    pub position : ℕ
    pub place : place_at end ts position ≡ q
    pub fault : AtFault (unplaced ts) position ⊎ (position ≡ length ts)
    pub first : (i : ℕ) → AtFault (unplaced ts) i → position ≤ i

  -- the first token that no tree can have there; or the end, where the tokens are no tree's
  pub record FirstWrong (ts : List T) (k : ℕ) : Type 0 where
    pub before : TokensBegin L (take k ts)
    pub cannot_go_on : k < length ts → ¬ TokensBegin L (take (suc k) ts)
    pub cannot_end : k ≡ length ts → ¬ TokensAre L ts
    pub inside : k ≤ length ts
