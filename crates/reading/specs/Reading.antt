-- What it is to read a list of tokens by a language: one of four things, with no mention of any reader.
use Rattle.std.specs.Prelude.{◌≡◌, List, [], ◌∷◌, ◌++◌, ℕ, suc}

-- a token, and what begins at it
pub record Marked (T M : Type 0) : Type 0 where
  pub token : T
  pub mark : M

infix 70 ◌at◌
abbrev pub ◌at◌ : {T M : Type 0} → T → M → Marked T M
◌at◌ t m = record { token = t; mark = m }

-- a token, and its place in the text, whatever a place is
pub record Placed (P T : Type 0) : Type 0 where
  pub token : T
  pub place : P

-- a list with one more behind it
infixl 65 ◌▹◌
abbrev pub ◌▹◌ : {A : Type 0} → List A → A → List A
◌▹◌ l x = l ++ (x ∷ [])

unfoldable pub tokens : {T M : Type 0} → List (Marked T M) → List T
tokens [] = []
tokens (p ∷ ps) = p.token ∷ tokens ps

unfoldable pub unplaced : {P T : Type 0} → List (Placed P T) → List T
unplaced [] = []
unplaced (t ∷ ts) = t.token ∷ unplaced ts

-- Trees and their spelling. Sizes are laid on top: what is remembered of the tokens before, and the number of refusal
-- of a token behind them, 0 where it passes no size.
pub record Language (T M : Type 0) : Type 1 where
  pub Tree : Type 0
  pub spell : Tree → List (Marked T M)
  pub Memory : Type 0
  pub fresh : Memory
  pub see : Memory → T → Memory
  pub fault : Memory → Marked T M → ℕ

module _ {T M : Type 0} (L : Language T M) where
  -- what is remembered behind these tokens
  unfoldable pub seen : L.Memory → List T → L.Memory
  seen v [] = v
  seen v (t ∷ ts) = seen (L.see v t) ts

  -- no token passes a size
  unfoldable pub Within : L.Memory → List (Marked T M) → Type 0
  Within v [] = Unit {0}
  Within v (p ∷ ps) = (L.fault v p ≡ 0) × Within (L.see v p.token) ps

  -- some tree's spelling begins so
  abbrev pub Begins : List (Marked T M) → Type 0
  Begins ps = (c : L.Tree) × (rest : List (Marked T M)) × (L.spell c ≡ ps ++ rest)

  -- some tree's tokens begin so
  abbrev pub TokensBegin : List T → Type 0
  TokensBegin ts = (c : L.Tree) × (rest : List T) × (tokens (L.spell c) ≡ ts ++ rest)

  -- these are some tree's tokens
  abbrev pub TokensAre : List T → Type 0
  TokensAre ts = (c : L.Tree) × (tokens (L.spell c) ≡ ts)

  -- some tree begins with the tokens, and none of them passes a size
  pub record Begun (ts : List T) : Type 0 where
    pub marked : List (Marked T M)
    pub same : tokens marked ≡ ts
    pub begins : Begins marked
    pub within : Within L.fresh marked

-- a tree, or a refusal: its number and its place
pub data Answer (P A : Type 0) : Type 0 where
  tree : A → Answer P A
  refused : ℕ → P → Answer P A

-- The readings of the tokens ts, behind which the text ends at the place `end`.
pub data Reading {P T M : Type 0} (L : Language T M) (end : P) (ts : List (Placed P T)) : Answer P L.Tree → Type 0 where
  -- the tokens are some tree's spelling, and none passes a size
  read : (c : L.Tree) → tokens (L.spell c) ≡ unplaced ts → Within L L.fresh (L.spell c) → Reading L end ts (tree c)
  -- some tree begins with the tokens before t, all within the sizes, and none begins with t too: 2 at t
  wrong : (before : List (Placed P T)) (t : Placed P T) (after : List (Placed P T)) → before ++ t ∷ after ≡ ts → Begun L (unplaced before) → ¬ TokensBegin L (unplaced before ▹ t.token) → Reading L end ts (refused 2 t.place)
  -- the tokens begin some tree and are none: 2 at the end
  short : Begun L (unplaced ts) → ¬ TokensAre L (unplaced ts) → Reading L end ts (refused 2 end)
  -- some tree begins with the tokens as far as t, and t is the first that passes a size: its number at t
  over : (before : List (Placed P T)) (t : Placed P T) (after : List (Placed P T)) → before ++ t ∷ after ≡ ts → (b : Begun L (unplaced before)) (m : M) → Begins L (b.marked ▹ (t.token at m)) → (n : ℕ) → L.fault (seen L L.fresh (unplaced before)) (t.token at m) ≡ suc n → Reading L end ts (refused (suc n) t.place)
