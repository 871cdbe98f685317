-- A reader that goes from left to right, one token after the other. It is a proof's tool: a reading is defined without it, and every lawful
-- machine gives the reading. Contracts of functions that read a part of a text speak of it, and those of whole texts do not.
use Rattle.std.specs.Prelude.{◌≡◌, List, [], ◌∷◌, zero, suc}
use Rattle.std.proofs.Math.Option.{Option, none, some}
use Rattle.reading.specs.Reading.{Marked, ◌at◌, ◌▹◌, Placed, tokens, Language, Begins, Answer, tree, refused}

-- what begins at the token, and the state behind it
pub record Step (S M : Type 0) : Type 0 where
  pub mark : M
  pub state : S

-- `finished`: the tree, where the text may end
pub record Machine (T M A : Type 0) : Type 1 where
  pub State : Type 0
  pub begin : State
  pub step : State → T → Option (Step State M)
  pub finished : State → Option A

unfoldable pub last : {P A : Type 0} → Option A → P → Answer P A
last none end = refused 2 end
last (some c) end = tree c

-- the answer to the tokens that are left, from a state and what is remembered
unfoldable pub walk : {P T M : Type 0} (L : Language T M) (K : Machine T M L.Tree) → K.State → L.Memory → P → List (Placed P T) → Answer P L.Tree
walk L K s v end [] = last (K.finished s) end
walk L K s v end (t ∷ ts) = elim (K.step s t.token) [ none ↦ refused 2 t.place | some x ↦ elim (L.fault v (t.token at x.mark)) [ zero ↦ walk L K x.state (L.see v t.token) end ts | suc n ↦ refused (suc n) t.place ] ]

unfoldable pub answer : {P T M : Type 0} (L : Language T M) (K : Machine T M L.Tree) → P → List (Placed P T) → Answer P L.Tree
answer L K end ts = walk L K K.begin L.fresh end ts

-- the state behind all tokens, where each has a step
unfoldable pub run : {T M A : Type 0} (K : Machine T M A) → K.State → List T → Option K.State
run K s [] = some s
run K s (t ∷ ts) = elim (K.step s t) [ none ↦ none | some x ↦ run K x.state ts ]

-- A lawful machine: a state says what was read on the way to it (`spelled`); from every state some tree can still be
-- reached; it finishes with the tree that it has read; and on each tree's tokens it ends in a state that finishes with that tree.
pub record Lawful {T M : Type 0} (L : Language T M) (K : Machine T M L.Tree) : Type 0 where
  pub spelled : K.State → List (Marked T M)
  pub nothing : spelled K.begin ≡ []
  pub adds : (s : K.State) (t : T) (x : Step K.State M) → K.step s t ≡ some x → spelled x.state ≡ spelled s ▹ (t at x.mark)
  pub begins : (s : K.State) → Begins L (spelled s)
  pub finish : (s : K.State) (c : L.Tree) → K.finished s ≡ some c → spelled s ≡ L.spell c
  pub whole : L.Tree → K.State
  pub complete : (c : L.Tree) → run K K.begin (tokens (L.spell c)) ≡ some (whole c)
  pub whole_finished : (c : L.Tree) → K.finished (whole c) ≡ some c
