-- Traces: the tokens that take a machine from one state to another, with the marks that it gives them.
use mathlib.Core.Path.{◌≡◌, refl, sym as inv, ap, ◌∙◌}
use mathlib.Core.Option.{Option, none, some}
use mathlib.Core.List.{List, [], ◌∷◌, ◌++◌, append_assoc}
use Prim.Native.Nat.{ℕ}
use native.Mathlib.Omega.{arith}
use Rattle.reading.specs.Reading.{Marked, ◌at◌, ◌▹◌, Placed, tokens, unplaced, Language, seen, Within}
use Rattle.reading.specs.Machine.{Step, Machine, walk, run}
use Rattle.reading.proofs.Lists.{none_some, some_inj, tokens_append, marked_eta}

-- the tokens of ps take the machine from s to s', whatever follows
pub record Leads {T M A : Type 0} (K : Machine T M A) (s : K.State) (ps : List (Marked T M)) (s' : K.State) : Type 0 where
  pub via : (r : List T) → run K s (tokens ps ++ r) ≡ run K s' r

pub leads_append : {T M A : Type 0} (K : Machine T M A) {s s' s'' : K.State} (l m : List (Marked T M)) → Leads K s l s' → Leads K s' m s'' → Leads K s (l ++ m) s''
leads_append K l m g h = record { via = λ r. rw (tokens_append l m, append_assoc) (g.via (tokens m ++ r) ∙ h.via r) }

module _ {T M A : Type 0} (K : Machine T M A) where
  abbrev pub Trace : K.State → List (Marked T M) → K.State → Type 0
  Trace s [] s' = s ≡ s'
  Trace s (p ∷ ps) s' = (x : Step K.State M) × (K.step s p.token ≡ some x) × (p.mark ≡ x.mark) × Trace x.state ps s'

  pub trace_split : (s : K.State) (l m : List (Marked T M)) (s' : K.State) → Trace s (l ++ m) s' → (k : K.State) × Trace s l k × Trace k m s'
  trace_split s [] m s' tr = (s, refl, tr)
  trace_split s (p ∷ ps) m s' (x, e, a, tr) = let q = trace_split x.state ps m s' tr in (q.0, (x, e, a, q.1), q.2)

  pub trace_on : (s : K.State) (ps : List (Marked T M)) (s' : K.State) (t : T) (x : Step K.State M) → Trace s ps s' → K.step s' t ≡ some x → Trace s (ps ▹ (t at x.mark)) x.state
  trace_on s [] s' t x e h = (x, rw e h, refl, refl)
  trace_on s (p ∷ ps) s' t x (y, e, a, tr) h = (y, e, a, trace_on y.state ps s' t x tr h)

  pub trace_run : (s : K.State) (ps : List (Marked T M)) (s' : K.State) (r : List T) → Trace s ps s' → run K s (tokens ps ++ r) ≡ run K s' r
  unfolding tokens run
  trace_run s [] s' r e = rw e
  trace_run s (p ∷ ps) s' r (x, e, a, tr) = rw (e, run) (trace_run x.state ps s' r tr)

  pub run_trace : (s : K.State) (ts : List T) (s' : K.State) → run K s ts ≡ some s' → (ps : List (Marked T M)) × (tokens ps ≡ ts) × Trace s ps s'
  unfolding run tokens
  run_trace s [] s' h = ([], refl, some_inj h)
  run_trace s (t ∷ ts) s' h = go (K.step s t) refl (λ x k. run_trace x.state ts s' k)
    where
      go : (o : Option (Step K.State M)) → K.step s t ≡ o → ((x : Step K.State M) → run K x.state ts ≡ some s' → (ps : List (Marked T M)) × (tokens ps ≡ ts) × Trace x.state ps s') → (ps : List (Marked T M)) × (tokens ps ≡ t ∷ ts) × Trace s ps s'
      go none e rec = absurd (none_some {a = s'} (inv (rw (e, run)) ∙ h))
      go (some x) e rec = let q = rec x (inv (rw (e, run)) ∙ h) in ((t at x.mark) ∷ q.0, ap (λ l. t ∷ l) q.1, (x, e, refl, q.2))

  -- the tokens settle the marks
  pub trace_marks : (s : K.State) (l m : List (Marked T M)) (s' s'' : K.State) → Trace s l s' → Trace s m s'' → tokens l ≡ tokens m → l ≡ m
  unfolding tokens
  trace_marks s [] [] s' s'' f g e = refl
  trace_marks s [] (q ∷ m) s' s'' f g e = let z : ◌≡◌ {A = ℕ} 0 1 = cc in absurd (omega arith)
  trace_marks s (p ∷ l) [] s' s'' f g e = let z : ◌≡◌ {A = ℕ} 0 1 = cc in absurd (omega arith)
  trace_marks s (p ∷ l) (q ∷ m) s' s'' (x, h, a, f) (y, k, b, g) e =
      let t : p.token ≡ q.token = cc in
      let z : x ≡ y = some_inj (inv h ∙ rw t k) in
      let pq : p ≡ q = λ i. record { token = t i; mark = (a ∙ ap (λ w. w.mark) z ∙ inv b) i } in
      let r : tokens l ≡ tokens m = cc in
      rw (pq, trace_marks y.state l m s' s'' (rw z at f) g r)

module _ {P T M : Type 0} (L : Language T M) (K : Machine T M L.Tree) where
  -- a walk passes over a trace within the sizes
  pub walk_pass : (s : K.State) (ps : List (Marked T M)) (s' : K.State) (v : L.Memory) (end : P) (before rest : List (Placed P T)) → tokens ps ≡ unplaced before → Trace K s ps s' → Within L v ps → walk L K s v end (before ++ rest) ≡ walk L K s' (seen L v (unplaced before)) end rest
  unfolding walk tokens unplaced Within seen
  walk_pass s [] s' v end [] rest e tr w = rw tr
  walk_pass s [] s' v end (t ∷ before) rest e tr w = let z : ◌≡◌ {A = ℕ} 0 1 = cc in absurd (omega arith)
  walk_pass s (p ∷ ps) s' v end [] rest e tr w = let z : ◌≡◌ {A = ℕ} 0 1 = cc in absurd (omega arith)
  walk_pass s (p ∷ ps) s' v end (t ∷ before) rest e (x, h, a, tr) w =
      let q : p.token ≡ t.token = cc in
      let f : L.fault v (t.token at x.mark) ≡ 0 = rw q at (rw (marked_eta p x.mark a) at w.0) in
      let h' : K.step s t.token ≡ some x = rw q at h in
      rw (h', walk, f) (walk_pass x.state ps s' (L.see v t.token) end before rest (cc) tr (rw q at w.1))
