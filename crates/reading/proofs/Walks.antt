-- Laws of a walk, token by token, over any machine and any places.
use mathlib.Core.Path.{◌≡◌, refl}
use mathlib.Core.Option.{none, some}
use mathlib.Core.List.{List, [], ◌∷◌}
use Prim.Native.Nat.{ℕ, zero, suc}
use Rattle.reading.specs.Reading.{◌at◌, Placed, Language, tree, refused}
use Rattle.reading.specs.Machine.{Step, Machine, last, walk}

module _ {P T M : Type 0} (L : Language T M) (K : Machine T M L.Tree) (s : K.State) (v : L.Memory) (end : P) where
  -- a step within the sizes
  pub walk_on : (t : Placed P T) (ts : List (Placed P T)) (x : Step K.State M) → K.step s t.token ≡ some x → L.fault v (t.token at x.mark) ≡ 0 → walk L K s v end (t ∷ ts) ≡ walk L K x.state (L.see v t.token) end ts
  unfolding walk
  walk_on t ts x e f = rw (e, walk, f)

  -- a step that passes a size
  pub walk_fault : (t : Placed P T) (ts : List (Placed P T)) (x : Step K.State M) (n : ℕ) → K.step s t.token ≡ some x → n ≡ L.fault v (t.token at x.mark) → (n ≡ 0 → ⊥) → walk L K s v end (t ∷ ts) ≡ refused n t.place
  unfolding walk
  walk_fault t ts x zero e f z = absurd (z refl)
  walk_fault t ts x (suc n) e f z = rw (e, walk, ← f)

  -- no step
  pub walk_wrong : (t : Placed P T) (ts : List (Placed P T)) → K.step s t.token ≡ none → walk L K s v end (t ∷ ts) ≡ refused 2 t.place
  unfolding walk
  walk_wrong t ts e = rw (e, walk)

  -- the end, where a tree is whole
  pub walk_end : (c : L.Tree) → K.finished s ≡ some c → walk L K s v end [] ≡ tree c
  unfolding walk last
  walk_end c f = rw f

  -- the end, where more is needed
  pub walk_short : K.finished s ≡ none → walk L K s v end [] ≡ refused 2 end
  unfolding walk last
  walk_short f = rw f

  -- two states that take the next token alike
  pub walk_same : (s' : K.State) (t : Placed P T) (ts : List (Placed P T)) → K.step s t.token ≡ K.step s' t.token → walk L K s v end (t ∷ ts) ≡ walk L K s' v end (t ∷ ts)
  unfolding walk
  walk_same s' t ts e = rw (e, walk)

  -- two states that end alike
  pub walk_same_end : (s' : K.State) → K.finished s ≡ K.finished s' → walk L K s v end [] ≡ walk L K s' v end []
  unfolding walk
  walk_same_end s' e = rw e
