-- A step of the reading, by the number of the token at a place: on, refused for a size, refused because no move takes the token, or at the end.
use mathlib.Core.Path.{◌≡◌, refl, sym as inv, ap, ap₂, ◌∙◌}
use mathlib.Core.Bool.{Bool, true, false}
use mathlib.Core.Option.{Option, none, some}
use mathlib.Core.List.{List, [], ◌∷◌, ◌++◌, append-nil, append_assoc}
use Prim.Native.Nat.{ℕ, zero, suc}
use native.Mathlib.Omega.{arith}
use lib.Dec.{eqb}
use lib.ListN.{length}
use borrow.Author.Tests.{eqb-true, eqb-false, le-ltb}
use Rattle.texts.specs.declared.place.Place.{Place}
use Rattle.texts.specs.Parts.{part}
use Rattle.reading.specs.Reading.{Placed, tree, refused}
use Rattle.reading.specs.Machine.{Step, walk}
use Rattle.reading.proofs.Walks.{walk_on, walk_fault, walk_wrong, walk_end, walk_short, walk_same, walk_same_end}
use Rattle.meaning.specs.Rules.{Bytes}
use Rattle.grammar.specs.Tokens.{dot, Token, symbol}
use Rattle.grammar.specs.Trees.{Program}
use Rattle.grammar.specs.Spelling.{Mark}
use Rattle.grammar.specs.Variables.{Variables as Names, meet_symbol, meet}
use Rattle.grammar.specs.Sizes.{fault, language}
use Rattle.grammar.specs.States.{State}
use Rattle.grammar.specs.Moves.{symbol_number, token_number, try}
use Rattle.grammar.specs.Machine.{moves, step, machine}
use Rattle.grammar.proofs.Numbers.{try_number, try_by_number}
use Rattle.syntax.specs.Variables.{variables_of}
use Rattle.syntax.specs.declared.token.TokenRead.{TokenRead}
use Rattle.syntax.specs.Text.{token_of, placed_from, end_of, token_read, next_of}
use Rattle.syntax.specs.Ahead.{Wants, wants, wants_behind, wanting, ends_rule, is_first, if_first, firsts, behind_dot, dot_at, from}
use Rattle.syntax.proofs.Tokens.{token_by, token_here, number_here, placed_more, placed_end, end_here}

-- the machine by what it wants next is the grammar's machine
pub same_walk : {P : Type 0} (ground : Bool) (ts : List (Placed P Token)) (s : State ground) (vs : Names) (end : P) → walk (language ground) (machine ground) s vs end ts ≡ walk (language ground) (wanting ground) (wants s) vs end ts
unfolding walk step wants_behind
same_walk ground [] s vs end = refl
same_walk {P} ground (t ∷ ts) s vs end = go (try (moves s) t.token) refl (λ x. same_walk ground ts x.state (meet vs t.token) end)
  where
    size : (x : Step (State ground) Mark) (n : ℕ) → fault ground vs (record { token = t.token; mark = x.mark }) ≡ n → walk (language ground) (machine ground) x.state (meet vs t.token) end ts ≡ walk (language ground) (wanting ground) (wants x.state) (meet vs t.token) end ts → step s t.token ≡ some x → try (moves s) t.token ≡ some x → walk (language ground) (machine ground) s vs end (t ∷ ts) ≡ walk (language ground) (wanting ground) (wants s) vs end (t ∷ ts)
    size x zero f rec e q = walk_on (language ground) (machine ground) s vs end t ts x e f ∙ rec ∙ inv (walk_on (language ground) (wanting ground) (wants s) vs end t ts (record { mark = x.mark; state = wants x.state }) (rw q) f)
    size x (suc n) f rec e q = walk_fault (language ground) (machine ground) s vs end t ts x (suc n) e (inv f) (λ z. omega arith) ∙ inv (walk_fault (language ground) (wanting ground) (wants s) vs end t ts (record { mark = x.mark; state = wants x.state }) (suc n) (rw q) (inv f) (λ z. omega arith))

    go : (o : Option (Step (State ground) Mark)) → try (moves s) t.token ≡ o → ((x : Step (State ground) Mark) → walk (language ground) (machine ground) x.state (meet vs t.token) end ts ≡ walk (language ground) (wanting ground) (wants x.state) (meet vs t.token) end ts) → walk (language ground) (machine ground) s vs end (t ∷ ts) ≡ walk (language ground) (wanting ground) (wants s) vs end (t ∷ ts)
    go none e rec = walk_wrong (language ground) (machine ground) s vs end t ts e ∙ inv (walk_wrong (language ground) (wanting ground) (wants s) vs end t ts (rw e))
    go (some x) e rec = size x (fault ground vs (record { token = t.token; mark = x.mark })) refl (rec x) e e

-- the number of refusal of a token, where these variables have been met
abbrev pub fault_at : Bool → Bytes → List Place → Token → Mark → ℕ
fault_at ground text v u m = fault ground (variables_of text v) (record { token = u; mark = m })

-- the variables met behind a token that ends no rule
pub record Meets (text : Bytes) (u : Token) (place : Place) (v v' : List Place) : Type 0 where
  pub going : ends_rule u ≡ false
  pub names : meet (variables_of text v) u ≡ variables_of text v'
  pub places : v' ≡ v ++ if_first (is_first (variables_of text v) u) place

-- a token that is no variable
pub meets_none : (text : Bytes) (u : Token) (place : Place) (v : List Place) → ends_rule u ≡ false → meet (variables_of text v) u ≡ variables_of text v → Meets text u place v v
unfolding if_first
meets_none text u place v e m = record { going = e; names = m; places = rw (m, le-ltb (length (variables_of text v)) (length (variables_of text v)) (omega arith)) (inv (append-nil v)) }

module _ (ground : Bool) (text : Bytes) (at : ℕ) (t : TokenRead) (et : t ≡ token_read ground text at) where
  abbrev here : Token
  here = token_here ground text at t et

  abbrev ahead : Placed Place Token
  ahead = record { token = here; place = t.place }

  more : (t.kind ≡ 20 → ⊥) → placed_from ground text at ≡ ahead ∷ placed_from ground text (next_of t)
  more h = placed_more ground text at t et h

  firsts_on : (v v' : List Place) → (t.kind ≡ 20 → ⊥) → Meets text here t.place v v' → v ++ firsts (variables_of text v) (placed_from ground text at) ≡ v' ++ firsts (variables_of text v') (placed_from ground text (next_of t))
  unfolding firsts
  firsts_on v v' h m = rw (more h, m.going) (inv (append_assoc v (if_first (is_first (variables_of text v) here) t.place) (firsts (meet (variables_of text v) here) (placed_from ground text (next_of t)))) ∙ ap₂ (λ (a : List Place) (b : Names). a ++ firsts b (placed_from ground text (next_of t))) (inv m.places) m.names)

  rest_on : (t.kind ≡ 20 → ⊥) → ends_rule here ≡ false → behind_dot (placed_from ground text at) ≡ behind_dot (placed_from ground text (next_of t))
  unfolding behind_dot
  rest_on h e = rw (more h, e)

  dot_on : (t.kind ≡ 20 → ⊥) → ends_rule here ≡ false → dot_at (placed_from ground text at) ≡ dot_at (placed_from ground text (next_of t))
  unfolding dot_at
  dot_on h e = rw (more h, e)

  -- a token that is taken, within the sizes
  pub on_token : (w : Wants ground) (v v' : List Place) (x : Step (State ground) Mark) → (t.kind ≡ 20 → ⊥) → try w.next here ≡ some x → fault_at ground text v here x.mark ≡ 0 → Meets text here t.place v v' → from ground text w v at ≡ from ground text (wants x.state) v' (next_of t)
  unfolding wants_behind
  on_token w v v' x h e f m = λ i. record { answer = answers i; firsts = firsts_on v v' h m i; rest = rest_on h m.going i; dot = dot_on h m.going i }
    where
      answers : (from ground text w v at).answer ≡ (from ground text (wants x.state) v' (next_of t)).answer
      answers = rw (more h, ← m.names) (walk_on (language ground) (wanting ground) w (variables_of text v) (end_of text) ahead _ (record { mark = x.mark; state = wants x.state }) (rw e) f)

  -- a token that passes a size
  pub over_token : (w : Wants ground) (v : List Place) (x : Step (State ground) Mark) (n : ℕ) → (t.kind ≡ 20 → ⊥) → try w.next here ≡ some x → n ≡ fault_at ground text v here x.mark → (n ≡ 0 → ⊥) → (from ground text w v at).answer ≡ refused n t.place
  unfolding wants_behind
  over_token w v x n h e f z = rw (more h) (walk_fault (language ground) (wanting ground) w (variables_of text v) (end_of text) ahead _ (record { mark = x.mark; state = wants x.state }) n (rw e) f z)

  -- a token that no move takes, or the end where more is needed
  pub wrong_token : (w : Wants ground) (v : List Place) → try_number w.next t.kind here ≡ none → (t.kind ≡ 20 → w.whole ≡ none) → (from ground text w v at).answer ≡ refused 2 t.place
  unfolding wants_behind
  wrong_token w v e f = go (eqb t.kind 20) refl
    where
      go : (b : Bool) → eqb t.kind 20 ≡ b → (from ground text w v at).answer ≡ refused 2 t.place
      go true q = let z = eqb-true t.kind 20 q in rw (placed_end ground text at t et z, ← (end_here ground text at t et z)) (walk_short (language ground) (wanting ground) w (variables_of text v) (end_of text) (f z))
      go false q = let z = eqb-false t.kind 20 q in rw (more z) (walk_wrong (language ground) (wanting ground) w (variables_of text v) (end_of text) ahead _ (rw (try_by_number w.next here t.kind (number_here ground text at t et z), e)))

  -- the end, where a tree is whole
  pub at_end : (w : Wants ground) (v : List Place) (c : Program ground) → t.kind ≡ 20 → w.whole ≡ some c → (from ground text w v at).answer ≡ tree c
  at_end w v c z f = rw (placed_end ground text at t et z) (walk_end (language ground) (wanting ground) w (variables_of text v) (end_of text) c f)

  -- two that take the token alike
  pub same_token : (w w' : Wants ground) (v : List Place) → ((t.kind ≡ 20 → ⊥) → try w.next here ≡ try w'.next here) → w.whole ≡ w'.whole → from ground text w v at ≡ from ground text w' v at
  unfolding wants_behind
  same_token w w' v e f = λ i. record { answer = go (eqb t.kind 20) refl i; firsts = (from ground text w v at).firsts; rest = (from ground text w v at).rest; dot = (from ground text w v at).dot }
    where
      go : (b : Bool) → eqb t.kind 20 ≡ b → (from ground text w v at).answer ≡ (from ground text w' v at).answer
      go true q = rw (placed_end ground text at t et (eqb-true t.kind 20 q)) (walk_same_end (language ground) (wanting ground) w (variables_of text v) (end_of text) w' f)
      go false q = let z = eqb-false t.kind 20 q in rw (more z) (walk_same (language ground) (wanting ground) w (variables_of text v) (end_of text) w' ahead _ (rw (e z)))

  -- the same by the number of the token's kind
  module _ (k : ℕ) (ek : t.kind ≡ k) (nk : k ≡ 20 → ⊥) where
    abbrev by : Token
    by = token_by k (part text t.place)

    not_end : t.kind ≡ 20 → ⊥
    not_end q = nk (inv ek ∙ q)

    pub on_kind : (w : Wants ground) (v v' : List Place) (x : Step (State ground) Mark) → try w.next by ≡ some x → fault_at ground text v by x.mark ≡ 0 → Meets text by t.place v v' → from ground text w v at ≡ from ground text (wants x.state) v' (next_of t)
    on_kind w v v' x e f m = on_token w v v' x not_end (rw ek e) (rw ek f) (rw ek m)

    pub over_kind : (w : Wants ground) (v : List Place) (x : Step (State ground) Mark) (n : ℕ) → try w.next by ≡ some x → n ≡ fault_at ground text v by x.mark → (n ≡ 0 → ⊥) → (from ground text w v at).answer ≡ refused n t.place
    over_kind w v x n e f z = over_token w v x n not_end (rw ek e) (rw ek f) z

  -- a dot, behind which no variable is remembered
  pub dot_token : t.kind ≡ 8 → (w : Wants ground) (v : List Place) (x : Step (State ground) Mark) → try w.next (symbol dot) ≡ some x → fault_at ground text v (symbol dot) x.mark ≡ 0 → ((from ground text w v at).answer ≡ walk (language ground) (wanting ground) (wants x.state) [] (end_of text) (placed_from ground text (next_of t))) × ((from ground text w v at).firsts ≡ v) × ((from ground text w v at).rest ≡ some (placed_from ground text (next_of t)))
  unfolding wants_behind token_of meet meet_symbol firsts behind_dot token_number symbol_number
  dot_token ek w v x e f = (rw more_dot (walk_on (language ground) (wanting ground) w (variables_of text v) (end_of text) _ _ (record { mark = x.mark; state = wants x.state }) (rw e) f), rw more_dot (append-nil v), rw more_dot)
    where
      more_dot : placed_from ground text at ≡ record { token = symbol dot; place = t.place } ∷ placed_from ground text (next_of t)
      more_dot = more (λ q. omega arith) ∙ ap (λ k. record { token = token_by k (part text t.place); place = t.place } ∷ placed_from ground text (next_of t)) ek

  pub dot_stands : t.kind ≡ 8 → dot_at (placed_from ground text at) ≡ some t.place
  unfolding dot_at token_of token_number symbol_number
  dot_stands ek = ap dot_at (more (λ q. omega arith) ∙ ap (λ k. record { token = token_by k (part text t.place); place = t.place } ∷ placed_from ground text (next_of t)) ek)
