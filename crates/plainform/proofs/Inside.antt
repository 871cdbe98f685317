-- The tokens of a text that is read: none is stray, its bytes spell each, and they lie side by side in it with a blank where one is needed.
use mathlib.Core.Path.{◌≡◌, refl, sym as inv, ap, ◌∙◌}
use mathlib.Core.Logic.{inl, inr}
use mathlib.Core.Bool.{Bool, true, false, true≢false}
use mathlib.Core.Option.{Option, none, some}
use mathlib.Core.List.{List, [], ◌∷◌, ◌++◌, map}
use Prim.Native.Nat.{ℕ, zero, suc, ◌+◌, ◌≤◌}
use native.Mathlib.Omega.{arith}
use lib.Dec.{eqb}
use lib.ListN.{length, get_or, take, drop, length-append, length-take, take-append-drop}
use lib.Seq.{length-take-le, drop-drop}
use borrow.Author.Tests.{eqb-true, eqb-false}
use Rattle.lexis.specs.declared.kind.Kind.{Kind}
use Rattle.lexis.specs.declared.kind.Kind.TheVariants.{Not, Name, Stray}
use Rattle.texts.specs.declared.place.Place.{Place}
use Rattle.tokens.specs.declared.Token.{Token as TextToken}
use Rattle.lexis.specs.declared.class.Class.TheVariants.{Lower}
use Rattle.lexis.specs.declared.run.Run.TheVariants.{Word}
use Rattle.lexis.specs.Class.{class_of}
use Rattle.lexis.specs.Kind.{is_end, is_stray}
use Rattle.lexis.specs.Spelling.{name_kind, kind_of}
use Rattle.texts.specs.Prefix.{every}
use Rattle.tokens.specs.Spells.{spelling, Starts, Spells}
use Rattle.tokens.specs.Longest.{Longest}
use Rattle.tokens.specs.Token.{next_token}
use Rattle.texts.specs.Parts.{part}
use Rattle.tokens.specs.Tokens.{after, tokens_from}
use Rattle.lexis.proofs.KindNumber.{is_stray_lem}
use Rattle.tokens.proofs.Next.{inside, next_found, next_spells, forward}
use Rattle.tokens.proofs.TokenList.{tokens_end, tokens_more}
use Rattle.reading.specs.Reading.{tokens, unplaced}
use Rattle.reading.specs.Machine.{Step, run}
use Rattle.reading.proofs.Lists.{none_some}
use Rattle.meaning.specs.Rules.{Bytes}
use Rattle.grammar.specs.Tokens.{not, Token, name, symbol, stray}
use Rattle.grammar.specs.Trees.{empty, Program}
use Rattle.grammar.specs.Spelling.{Mark, spell}
use Rattle.grammar.specs.Writing.{symbol_bytes, token_bytes, is_word_symbol, is_word, run_together, blank, written, Apart}
use Rattle.grammar.specs.States.{State, atom_wanted, head_behind}
use Rattle.grammar.specs.Moves.{Move, on_name, on_variable, on_string, on_number, on_comparison, on, fire, either, try}
use Rattle.grammar.specs.Machine.{moves, step, machine}
use Rattle.grammar.proofs.Complete.{complete}
use Rattle.grammar.proofs.Plainer.{All}
use Rattle.grammar.proofs.Apart.{behind_nothing}
use Rattle.syntax.specs.Text.{token_of, placed_token}
use Rattle.plainform.proofs.Proper.{symbol_kind, kind_for, Proper, token_says, says_proper}

-- ---- no tree has a stray byte

abbrev pub NotStray : Token → Type 0
NotStray t = (b : ℕ) → t ≡ stray b → ⊥

no_move : {S : Type 0} (ms : List (Move S)) (b : ℕ) → try ms (stray b) ≡ none
unfolding try either fire
no_move [] b = refl
no_move (on_name m k ∷ ms) b = no_move ms b
no_move (on_variable m k ∷ ms) b = no_move ms b
no_move (on_string m k ∷ ms) b = no_move ms b
no_move (on_number m k ∷ ms) b = no_move ms b
no_move (on_comparison k ∷ ms) b = no_move ms b
no_move (on m z x ∷ ms) b = no_move ms b

module _ {ground : Bool} where
  run_not_stray : (ts : List Token) (s s' : State ground) → run (machine ground) s ts ≡ some s' → All NotStray ts
  unfolding run step
  run_not_stray [] s s' h = tt
  run_not_stray (t ∷ ts) s s' h = go (step s t) refl (λ x. run_not_stray ts x.state s')
    where
      go : (o : Option (Step (State ground) Mark)) → step s t ≡ o → ((x : Step (State ground) Mark) → run (machine ground) x.state ts ≡ some s' → All NotStray ts) → All NotStray (t ∷ ts)
      go none q rec = absurd (none_some {a = s'} (inv (rw (q, run)) ∙ h))
      go (some x) q rec = ((λ b e. none_some {a = x} (inv (rw e (no_move (moves s) b)) ∙ q)), rec x (inv (rw (q, run)) ∙ h))

  pub program_not_stray : (p : Program ground) → All NotStray (tokens (spell p))
  program_not_stray p = run_not_stray (tokens (spell p)) (atom_wanted (head_behind empty)) (atom_wanted (head_behind p)) (complete p)

-- ---- the tokens of a text, one after the other

module _ (text : Bytes) where
  abbrev next : ℕ → TextToken
  next at = next_token true text at

  -- the grammar's tokens
  abbrev here : List TextToken → List Token
  here us = unplaced (map (placed_token text) us)

  -- the first of the tokens from a place on, and those behind it
  record Unrolls (at : ℕ) (u : TextToken) (us : List TextToken) : Type 0 where
    pub first : next at ≡ u
    pub real : is_end u.kind ≡ false
    pub behind : tokens_from true text (after u) ≡ us

  unrolls : (at : ℕ) (u : TextToken) (us : List TextToken) → tokens_from true text at ≡ u ∷ us → Unrolls at u us
  unrolls at u us e = go (is_end (next at).kind) refl
    where
      go : (t : Bool) → is_end (next at).kind ≡ t → Unrolls at u us
      go true q = let f = inv (tokens_end true text at q) ∙ e in let z : ◌≡◌ {A = ℕ} 0 1 = cc in absurd (omega arith)
      go false q =
          let f = inv (tokens_more true text at q) ∙ e in
          let g : next at ≡ u = cc in
          record { first = g; real = rw g at q; behind = rw g at (let z : tokens_from true text (after (next at)) ≡ us = cc in z) }

  not_stray : (u : TextToken) → NotStray (token_of u.kind (part text u.place)) → is_stray u.kind ≡ false
  unfolding token_of
  not_stray u h = go (is_stray u.kind) refl
    where
      go : (t : Bool) → is_stray u.kind ≡ t → is_stray u.kind ≡ false
      go true e = absurd (h (get_or (part text u.place) 0 0) (rw (is_stray_lem u.kind e)))
      go false e = e

  -- its bytes spell it
  spelled : (at : ℕ) (u : TextToken) → next at ≡ u → is_end u.kind ≡ false → NotStray (token_of u.kind (part text u.place)) → Spells u.kind (part text u.place)
  spelled at u e r h = rw e at (next_spells true text at (rw e r) (rw e (not_stray u h)))

  pub all_proper : (us : List TextToken) (at : ℕ) → tokens_from true text at ≡ us → All NotStray (here us) → All Proper (here us)
  unfolding unplaced
  all_proper [] at e h = tt
  all_proper (u ∷ us) at e h =
      let r = unrolls at u us e in
      (says_proper u.kind (part text u.place) (spelled at u r.first r.real h.0), all_proper us (after u) r.behind h.1)

  -- ---- how long what is written is

  -- a blank stands between `not` and a name: side by side they are a name
  not_name : (s len n : ℕ) (kind : Kind) → Longest (drop s text) kind len → take len (drop s text) ≡ spelling Not → Starts Lower Word (take n (drop (s + len) text)) → ⊥
  unfolding kind_of class_of name_kind every
  not_name s len n kind l e h = first (drop (s + len) text) n h (λ c r d. joined c r d)
    where
      first : (d : Bytes) (n : ℕ) → Starts Lower Word (take n d) → ((c : ℕ) (r : Bytes) → d ≡ c ∷ r → class_of c ≡ Lower → ⊥) → ⊥
      first [] zero h k = omega (arith, h.some)
      first [] (suc n) h k = omega (arith, h.some)
      first (c ∷ r) zero h k = omega (arith, h.some)
      first (c ∷ r) (suc n) h k = k c r refl h.first

      three : len ≡ 3
      three = inv (length-take-le len (drop s text) l.inside) ∙ ap length e

      joined : (c : ℕ) (r : Bytes) → drop (s + len) text ≡ c ∷ r → class_of c ≡ Lower → ⊥
      joined c r d k =
          let w : drop s text ≡ 110 ∷ 111 ∷ 116 ∷ c ∷ r = inv (take-append-drop len (drop s text)) ∙ rw (e, drop-drop len s text, d) in
          let m : Longest (110 ∷ 111 ∷ 116 ∷ c ∷ r) kind 3 = rw (w, three) at l in
          let z : kind_of (110 ∷ 111 ∷ 116 ∷ c ∷ []) ≡ Stray = m.longest 4 (omega arith) (omega arith) in
          true≢false (ap is_stray (inv z) ∙ rw k)

  longest_here : (at : ℕ) (u : TextToken) → next at ≡ u → is_end u.kind ≡ false → Longest (drop u.place.start text) u.kind u.place.len
  longest_here at u e r =
      let f = next_found true text at (rw e r) in
      rw e at (rw (← (ap (λ (p : Place). p.start) f.place)) at f.longest)

  apart_blank : (at : ℕ) (u v : TextToken) (vs : List TextToken) → Unrolls at u (v ∷ vs) → All NotStray (here (u ∷ v ∷ vs)) → (b : Bytes) → token_of u.kind (part text u.place) ≡ symbol not → token_of v.kind (part text v.place) ≡ name b → after u ≡ v.place.start → ⊥
  unfolding unplaced kind_for symbol_kind token_bytes symbol_bytes
  apart_blank at u v vs r h b e f q =
      let w = unrolls (after u) v vs r.behind in
      let su = token_says u.kind (part text u.place) (spelled at u r.first r.real h.0) in
      let sv = spelled (after u) v w.first w.real h.1.0 in
      let kv : Name ≡ v.kind = rw f at (token_says v.kind (part text v.place) sv).1 in
      let bu : spelling Not ≡ part text u.place = rw e at su.0 in
      not_name u.place.start u.place.len v.place.len u.kind (longest_here at u r.first r.real) (inv bu) (rw (← q) at (rw (← kv) at sv).0)

  -- the blank that is written behind a token stands in the text
  room : (at : ℕ) (u : TextToken) (us : List TextToken) → Unrolls at u us → All NotStray (here (u ∷ us)) → Apart (here (u ∷ us)) → after u + length (blank (token_of u.kind (part text u.place)) (here us)) ≤ (next (after u)).place.start
  unfolding unplaced blank run_together is_word is_word_symbol
  room at u us r h a = go us r h a
    where
      onward : after u ≤ (next (after u)).place.start
      onward = forward true text (after u) (rw (← r.first) (inside true text at))

      go : (us : List TextToken) → Unrolls at u us → All NotStray (here (u ∷ us)) → Apart (here (u ∷ us)) → after u + length (blank (token_of u.kind (part text u.place)) (here us)) ≤ (next (after u)).place.start
      go [] r h a = omega (arith, onward)
      go (v ∷ vs) r h (inl q, a) = rw q (omega (arith, onward))
      go (v ∷ vs) r h (inr (b, e, f), a) = rw (e, f) (strictly (eqb (after u) (next (after u)).place.start) refl)
        where
          strictly : (t : Bool) → eqb (after u) (next (after u)).place.start ≡ t → after u + 1 ≤ (next (after u)).place.start
          strictly true q = absurd (apart_blank at u v vs r h b e f (rw (unrolls (after u) v vs r.behind).first at (eqb-true (after u) (next (after u)).place.start q)))
          strictly false q = omega (arith, onward, eqb-false (after u) (next (after u)).place.start q)

  -- from the first token on
  pub written_inside : (us : List TextToken) (at : ℕ) → tokens_from true text at ≡ us → All NotStray (here us) → Apart (here us) → (next at).place.start + length (written (here us)) ≤ length text
  unfolding unplaced written
  written_inside [] at e h a = omega (arith, inside true text at)
  written_inside (u ∷ us) at e h a =
      let r = unrolls at u us e in
      let t = token_of u.kind (part text u.place) in
      let ih = written_inside us (after u) r.behind h.1 (behind_nothing t (here us) a) in
      let g = room at u us r h a in
      let l : length (token_bytes t) ≤ u.place.len = rw ((token_says u.kind (part text u.place) (spelled at u r.first r.real h.0)).0, length-take u.place.len (drop u.place.start text)) (omega arith) in
      rw (r.first, length-append (token_bytes t ++ blank t (here us)) (written (here us)), length-append (token_bytes t) (blank t (here us))) (omega arith)
