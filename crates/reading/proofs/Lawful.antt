-- For every lawful machine: its answer is a reading, and every reading is its answer.
use mathlib.Core.Path.{◌≡◌, refl, sym as inv, ◌∙◌}
use mathlib.Core.Option.{Option, none, some}
use mathlib.Core.List.{List, [], ◌∷◌, ◌++◌, append_assoc, append-nil}
use Prim.Native.Nat.{ℕ, zero, suc}
use Rattle.reading.specs.Reading.{Marked, ◌at◌, ◌▹◌, Placed, tokens, unplaced, Language, seen, Within, Begins, TokensBegin, Begun, Answer, refused, Reading, read, wrong, short, over}
use Rattle.reading.specs.Machine.{Step, Machine, last, walk, answer, run, Lawful}
use Rattle.reading.proofs.Lists.{none_some, some_inj, tokens_append, tokens_on, unplaced_on, seen_on, within_on}
use Rattle.reading.proofs.Traces.{Trace, trace_split, trace_on, trace_run, run_trace, trace_marks, walk_pass}

module _ {T M : Type 0} (L : Language T M) (K : Machine T M L.Tree) (W : Lawful L K) where
  trace_spelled : (s : K.State) (ps : List (Marked T M)) (s' : K.State) → Trace K s ps s' → W.spelled s' ≡ W.spelled s ++ ps
  trace_spelled s [] s' e = rw (append-nil, e)
  trace_spelled s (p ∷ ps) s' (x, e, a, tr) = trace_spelled x.state ps s' tr ∙ rw (W.adds s p.token x e, ← a) (simp append_assoc)

  -- what a trace reads is its state's spelling
  reached : (ps : List (Marked T M)) (s : K.State) → Trace K K.begin ps s → W.spelled s ≡ ps
  reached ps s tr = rw W.nothing at (trace_spelled K.begin ps s tr)

  spell_trace : (c : L.Tree) → Trace K K.begin (L.spell c) (W.whole c)
  spell_trace c =
      let q = run_trace K K.begin (tokens (L.spell c)) (W.whole c) (W.complete c) in
      let e : L.spell c ≡ q.0 = inv (W.finish (W.whole c) c (W.whole_finished c)) ∙ reached q.0 (W.whole c) q.2 in
      rw e q.2

  pub reach : (ps : List (Marked T M)) → Begins L ps → (s : K.State) × Trace K K.begin ps s
  reach ps (c, v, e) = let q = trace_split K K.begin ps v (W.whole c) (rw e at (spell_trace c)) in (q.0, q.1)

  -- a text that ends at s is a tree's only if s is finished
  only_finished : (s : K.State) (ps : List (Marked T M)) (c : L.Tree) → Trace K K.begin ps s → tokens (L.spell c) ≡ tokens ps → K.finished s ≡ some c
  unfolding run
  only_finished s ps c tr e =
      let k : some (W.whole c) ≡ some s = inv (W.complete c) ∙ rw (e, ← (append-nil (tokens ps))) (trace_run K K.begin ps s [] tr) in
      rw (← (some_inj k)) (W.whole_finished c)

  -- where no step takes t, no tree goes on with t
  dead : (s : K.State) (ps : List (Marked T M)) (t : T) → Trace K K.begin ps s → K.step s t ≡ none → ¬ TokensBegin L (tokens ps ▹ t)
  unfolding run
  dead s ps t tr e (c, v, h) =
      let k : run K K.begin (tokens ps ++ t ∷ v) ≡ some (W.whole c) = rw (append_assoc (tokens ps) (t ∷ []) v) at (rw h at (W.complete c)) in
      none_some {a = W.whole c} (inv (trace_run K K.begin ps s (t ∷ v) tr ∙ rw (e, run)) ∙ k)

  -- where a step takes t, some tree goes on with t
  alive : (s : K.State) (ps : List (Marked T M)) (t : T) (x : Step K.State M) → Trace K K.begin ps s → K.step s t ≡ some x → TokensBegin L (tokens ps ▹ t)
  alive s ps t x tr h =
      let (c, v, q) = W.begins x.state in
      let e : L.spell c ≡ (ps ▹ (t at x.mark)) ++ v = q ∙ rw (W.adds s t x h, reached ps s tr) in
      (c, tokens v, rw (e, tokens_append (ps ▹ (t at x.mark)) v, tokens_on ps))

  -- what begins at each token is settled by the tokens
  pub same_marks : (l m : List (Marked T M)) → Begins L l → Begins L m → tokens l ≡ tokens m → l ≡ m
  same_marks l m b c e = let f = reach l b in let g = reach m c in trace_marks K K.begin l m f.0 g.0 f.1 g.1 e

  -- tokens are spelled by one tree only
  pub one_tree : (c c' : L.Tree) → tokens (L.spell c) ≡ tokens (L.spell c') → c ≡ c'
  one_tree c c' e = some_inj (inv (only_finished (W.whole c) (L.spell c) c (spell_trace c) refl) ∙ only_finished (W.whole c) (L.spell c) c' (spell_trace c) (inv e))

  module _ {P : Type 0} (end : P) where
    abbrev begun : (s : K.State) (ps : List (Marked T M)) (before : List (Placed P T)) → tokens ps ≡ unplaced before → Trace K K.begin ps s → Within L L.fresh ps → Begun L (unplaced before)
    begun s ps before e tr w = record { marked = ps; same = e; begins = rw (← (reached ps s tr)) (W.begins s); within = w }

    -- from a state that the tokens before have led to, the walk over the rest gives a reading of all
    walk_reads : (rest : List (Placed P T)) (s : K.State) (ts before : List (Placed P T)) (ps : List (Marked T M)) → before ++ rest ≡ ts → tokens ps ≡ unplaced before → Trace K K.begin ps s → Within L L.fresh ps → Reading L end ts (walk L K s (seen L L.fresh (unplaced before)) end rest)
    unfolding walk last
    walk_reads [] s ts before ps e q tr w = go (K.finished s) refl
      where
        all : unplaced ts ≡ tokens ps
        all = rw (← e, append-nil) (inv q)

        go : (o : Option L.Tree) → K.finished s ≡ o → Reading L end ts (last o end)
        go none h = short (rw (all, q) (begun s ps before q tr w)) (λ z. none_some (inv h ∙ only_finished s ps z.0 tr (z.1 ∙ all)))
        go (some c) h = let z : ps ≡ L.spell c = inv (reached ps s tr) ∙ W.finish s c h in read c (rw (← z) (inv all)) (rw z at w)
    walk_reads (t ∷ rest) s ts before ps e q tr w = go (K.step s t.token) refl (λ x. walk_reads rest x.state ts (before ▹ t) (ps ▹ (t.token at x.mark)))
      where
        more : (m : M) → tokens (ps ▹ (t.token at m)) ≡ unplaced (before ▹ t)
        more m = rw (tokens_on ps, unplaced_on before, q)

        go : (o : Option (Step K.State M)) → K.step s t.token ≡ o → ((x : Step K.State M) → (before ▹ t) ++ rest ≡ ts → tokens (ps ▹ (t.token at x.mark)) ≡ unplaced (before ▹ t) → Trace K K.begin (ps ▹ (t.token at x.mark)) x.state → Within L L.fresh (ps ▹ (t.token at x.mark)) → Reading L end ts (walk L K x.state (seen L L.fresh (unplaced (before ▹ t))) end rest)) → Reading L end ts (walk L K s (seen L L.fresh (unplaced before)) end (t ∷ rest))
        go none h rec = rw (h, walk) (wrong before t rest e (begun s ps before q tr w) (rw (← q) (dead s ps t.token tr h)))
        go (some x) h rec = rw (h, walk) (size (L.fault (seen L L.fresh (unplaced before)) (t.token at x.mark)) refl)
          where
            on : Trace K K.begin (ps ▹ (t.token at x.mark)) x.state
            on = trace_on K K.begin ps s t.token x tr h

            remembered : seen L L.fresh (unplaced (before ▹ t)) ≡ L.see (seen L L.fresh (unplaced before)) t.token
            remembered = rw (unplaced_on before, seen_on L L.fresh)

            kept : L.fault (seen L L.fresh (unplaced before)) (t.token at x.mark) ≡ 0 → Within L L.fresh (ps ▹ (t.token at x.mark))
            kept f = within_on L L.fresh ps _ w (rw q f)

            size : (n : ℕ) → L.fault (seen L L.fresh (unplaced before)) (t.token at x.mark) ≡ n → Reading L end ts (elim n [ zero ↦ walk L K x.state (L.see (seen L L.fresh (unplaced before)) t.token) end rest | suc m ↦ refused (suc m) t.place ])
            size zero f = rw (← remembered) (rec x (append_assoc before _ _ ∙ e) (more x.mark) on (kept f))
            size (suc n) f = over before t rest e (begun s ps before q tr w) x.mark (rw (← (reached (ps ▹ (t.token at x.mark)) x.state on)) (W.begins x.state)) n f

    -- the answer is a reading
    pub reads : (ts : List (Placed P T)) → Reading L end ts (answer L K end ts)
    unfolding answer tokens unplaced Within seen
    reads ts = walk_reads ts K.begin ts [] [] refl refl refl tt

    from_begin : (ps : List (Marked T M)) (s : K.State) (before rest : List (Placed P T)) → tokens ps ≡ unplaced before → Trace K K.begin ps s → Within L L.fresh ps → answer L K end (before ++ rest) ≡ walk L K s (seen L L.fresh (unplaced before)) end rest
    unfolding answer
    from_begin ps s before rest e tr w = walk_pass L K K.begin ps s L.fresh end before rest e tr w

    -- every reading is the answer
    pub unique : (ts : List (Placed P T)) (a : Answer P L.Tree) → Reading L end ts a → answer L K end ts ≡ a
    unfolding walk last
    unique ts a (read c e w) = rw (← (append-nil ts)) (from_begin (L.spell c) (W.whole c) ts [] e (spell_trace c) w ∙ rw (W.whole_finished c))
    unique ts a (wrong before t after e b d) = let q = reach b.marked b.begins in rw (← e) (from_begin b.marked q.0 before (t ∷ after) b.same q.1 b.within ∙ go q.0 q.1 (K.step q.0 t.token) refl)
      where
        go : (s : K.State) → Trace K K.begin b.marked s → (o : Option (Step K.State M)) → K.step s t.token ≡ o → walk L K s (seen L L.fresh (unplaced before)) end (t ∷ after) ≡ refused 2 t.place
        go s tr none h = rw (h, walk)
        go s tr (some x) h = absurd (d (rw (← b.same) (alive s b.marked t.token x tr h)))
    unique ts a (short b d) = let q = reach b.marked b.begins in rw (← (append-nil ts)) (from_begin b.marked q.0 ts [] b.same q.1 b.within ∙ go q.0 q.1 (K.finished q.0) refl)
      where
        go : (s : K.State) → Trace K K.begin b.marked s → (o : Option L.Tree) → K.finished s ≡ o → walk L K s (seen L L.fresh (unplaced ts)) end [] ≡ refused 2 end
        go s tr none h = rw (h, walk)
        go s tr (some c) h = absurd (d (c, rw (← b.same, ← (reached b.marked s tr), W.finish s c h)))
    unique ts a (over before t after e b m g n f) =
        let q = reach (b.marked ▹ (t.token at m)) g in
        let (s, tr, (x, h, a', z)) = trace_split K K.begin b.marked (t.token at m ∷ []) q.0 q.1 in
        let f' : L.fault (seen L L.fresh (unplaced before)) (t.token at x.mark) ≡ suc n = rw a' at f in
        rw (← e) (from_begin b.marked s before (t ∷ after) b.same tr b.within ∙ rw (h, walk, f'))
