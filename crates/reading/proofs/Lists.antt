-- Laws about lists of tokens, their marks and their places, and about what is remembered of them.
use mathlib.Core.Path.{◌≡◌, refl, ap}
use mathlib.Core.Option.{none, some}
use mathlib.Core.List.{List, [], ◌∷◌, ◌++◌}
use Prim.Native.Nat.{ℕ}
use native.Mathlib.Omega.{arith}
use Rattle.reading.specs.Reading.{Marked, ◌at◌, ◌▹◌, Placed, tokens, unplaced, Language, seen, Within}

pub none_some : {A : Type 0} {a : A} → none ≡ some a → ⊥
none_some {A} {a} h = let z : ◌≡◌ {A = ℕ} 0 1 = cc in omega arith

pub some_inj : {A : Type 0} {a b : A} → some a ≡ some b → a ≡ b
some_inj {A} {a} {b} h = cc

pub tokens_append : {T M : Type 0} (l m : List (Marked T M)) → tokens (l ++ m) ≡ tokens l ++ tokens m
unfolding tokens
tokens_append [] m = refl
tokens_append (p ∷ l) m = ap (λ x. p.token ∷ x) (tokens_append l m)

pub unplaced_append : {P T : Type 0} (l m : List (Placed P T)) → unplaced (l ++ m) ≡ unplaced l ++ unplaced m
unfolding unplaced
unplaced_append [] m = refl
unplaced_append (p ∷ l) m = ap (λ x. p.token ∷ x) (unplaced_append l m)

-- one token more

pub tokens_on : {T M : Type 0} (l : List (Marked T M)) (p : Marked T M) → tokens (l ▹ p) ≡ tokens l ▹ p.token
unfolding tokens
tokens_on l p = tokens_append l (p ∷ [])

pub unplaced_on : {P T : Type 0} (l : List (Placed P T)) (t : Placed P T) → unplaced (l ▹ t) ≡ unplaced l ▹ t.token
unfolding unplaced
unplaced_on l t = unplaced_append l (t ∷ [])

pub marked_eta : {T M : Type 0} (p : Marked T M) (m : M) → p.mark ≡ m → p ≡ (p.token at m)
marked_eta p m h = λ i. record { token = p.token; mark = h i }

module _ {T M : Type 0} (L : Language T M) where
  pub seen_append : (v : L.Memory) (l m : List T) → seen L v (l ++ m) ≡ seen L (seen L v l) m
  unfolding seen
  seen_append v [] m = refl
  seen_append v (t ∷ l) m = seen_append (L.see v t) l m

  pub within_split : (v : L.Memory) (l m : List (Marked T M)) → Within L v (l ++ m) → Within L v l × Within L (seen L v (tokens l)) m
  unfolding Within tokens seen
  within_split v [] m c = (tt, c)
  within_split v (p ∷ l) m c = let q = within_split (L.see v p.token) l m c.1 in ((c.0, q.0), q.1)

  pub within_join : (v : L.Memory) (l m : List (Marked T M)) → Within L v l → Within L (seen L v (tokens l)) m → Within L v (l ++ m)
  unfolding Within tokens seen
  within_join v [] m c d = d
  within_join v (p ∷ l) m c d = (c.0, within_join (L.see v p.token) l m c.1 d)

  pub seen_on : (v : L.Memory) (l : List T) (t : T) → seen L v (l ▹ t) ≡ L.see (seen L v l) t
  unfolding seen
  seen_on v l t = seen_append v l (t ∷ [])

  pub within_on : (v : L.Memory) (l : List (Marked T M)) (p : Marked T M) → Within L v l → L.fault (seen L v (tokens l)) p ≡ 0 → Within L v (l ▹ p)
  unfolding Within
  within_on v l p w f = within_join v l (p ∷ []) w (f, tt)
