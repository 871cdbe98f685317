-- Laws of dots: where the first one ends, and the tokens behind it.
use mathlib.Core.Path.{◌≡◌, refl, sym as inv, ap, ◌∙◌}
use mathlib.Core.Bool.{Bool, true, false}
use mathlib.Core.List.{List, [], ◌∷◌}
use Prim.Native.Nat.{ℕ, zero, suc, ◌+◌, ◌-◌, ◌≤◌, ◌<◌}
use native.Mathlib.Omega.{arith}
use native.Mathlib.Numerals.{add-one}
use lib.Dec.{eqb}
use lib.ListN.{length}
use borrow.Author.Tests.{eqb-true, eqb-false, eq-eqb, ne_eqb}
use Rattle.texts.specs.declared.place.Place.{Place}
use Rattle.texts.specs.Place.{with_len}
use Rattle.reading.specs.Reading.{Placed}
use Rattle.meaning.specs.Rules.{Bytes}
use Rattle.grammar.specs.Tokens.{Token}
use Rattle.syntax.specs.declared.token.TokenRead.{TokenRead}
use Rattle.syntax.specs.Text.{placed_from, end_of, token_read, next_of}
use Rattle.syntax.specs.Ahead.{ends_rule}
use Rattle.syntax.proofs.Tokens.{within, forward, token_here, number_here, placed_more, placed_end, end_here}
use Rattle.rule_places.specs.Sentences.{behind_dots, dot_end, to_dot, sentence}

-- where the first dot from a place on ends
abbrev ends : Bool → Bytes → ℕ → ℕ
ends ground text at = dot_end (end_of text) (placed_from ground text at)

module _ (ground : Bool) (text : Bytes) (at : ℕ) (t : TokenRead) (et : t ≡ token_read ground text at) where
  abbrev here : Placed Place Token
  here = record { token = token_here ground text at t et; place = t.place }

  is_dot : (t.kind ≡ 20 → ⊥) → ends_rule here.token ≡ eqb t.kind 8
  is_dot h = ap (λ (n : ℕ). eqb n 8) (number_here ground text at t et h)

  -- no token
  module _ (e : t.kind ≡ 20) where
    pub no_dot : ends ground text at ≡ length text
    unfolding dot_end
    no_dot = rw (placed_end ground text at t et e)

    pub no_token : to_dot (end_of text) (placed_from ground text at) ≡ t.place
    unfolding to_dot
    no_token = rw (placed_end ground text at t et e) (end_here ground text at t et e)

  -- a dot
  module _ (e : t.kind ≡ 8) where
    not_end : t.kind ≡ 20 → ⊥
    not_end q = omega arith

    pub dot_here : ends ground text at ≡ next_of t
    unfolding dot_end
    dot_here = rw (placed_more ground text at t et not_end, is_dot not_end, eq-eqb t.kind 8 e)

    behind_here : behind_dots 1 (placed_from ground text at) ≡ placed_from ground text (next_of t)
    unfolding behind_dots
    behind_here = rw (placed_more ground text at t et not_end, is_dot not_end, eq-eqb t.kind 8 e)

  -- another token
  module _ (n : t.kind ≡ 20 → ⊥) (e : t.kind ≡ 8 → ⊥) where
    pub dot_later : ends ground text at ≡ ends ground text (next_of t)
    unfolding dot_end
    dot_later = rw (placed_more ground text at t et n, is_dot n, ne_eqb t.kind 8 e)

    behind_later : behind_dots 1 (placed_from ground text at) ≡ behind_dots 1 (placed_from ground text (next_of t))
    unfolding behind_dots
    behind_later = rw (placed_more ground text at t et n, is_dot n, ne_eqb t.kind 8 e)

-- what holds where a text has no more tokens and at a dot, and at another token where it holds behind it, holds everywhere
module _ (ground : Bool) (text : Bytes) where
  abbrev token : ℕ → TokenRead
  token at = token_read ground text at

  module _ (P : ℕ → Type 0) (at_end : (at : ℕ) → (token at).kind ≡ 20 → P at) (at_dot : (at : ℕ) → (token at).kind ≡ 8 → P at) (at_other : (at : ℕ) → ((token at).kind ≡ 20 → ⊥) → ((token at).kind ≡ 8 → ⊥) → P (next_of (token at)) → P at) where
    up_to : (most at : ℕ) → length text - at < most → P at
    up_to zero at h = absurd (omega arith)
    up_to (suc most) at h = go (eqb (token at).kind 20) refl (eqb (token at).kind 8) refl (up_to most (next_of (token at)))
      where
        go : (a : Bool) → eqb (token at).kind 20 ≡ a → (b : Bool) → eqb (token at).kind 8 ≡ b → (length text - next_of (token at) < most → P (next_of (token at))) → P at
        go true e b f ih = at_end at (eqb-true (token at).kind 20 e)
        go false e true f ih = at_dot at (eqb-true (token at).kind 8 f)
        go false e false f ih =
            let n = eqb-false (token at).kind 20 e in
            let o = forward ground text at (token at) refl n in
            let w = within ground text at (token at) refl in
            at_other at n (eqb-false (token at).kind 8 f) (ih (omega arith))

    by_tokens : (at : ℕ) → P at
    by_tokens at = up_to (suc (length text - at)) at (omega arith)

  -- the first dot lies behind the place
  pub dot_behind : (at : ℕ) → at ≤ length text → at ≤ ends ground text at
  dot_behind =
      by_tokens
      (λ (at : ℕ). at ≤ length text → at ≤ ends ground text at)
      (λ at e k. rw (no_dot ground text at (token at) refl e) k)
      (λ at e k. let o = forward ground text at (token at) refl (λ q. omega arith) in rw (dot_here ground text at (token at) refl e) (omega arith))
      (λ at n e h k.
      let o = forward ground text at (token at) refl n in
      let b = h (within ground text at (token at) refl) in
      rw (dot_later ground text at (token at) refl n e) (omega arith))

  -- and inside the text
  pub dot_inside : (at : ℕ) → ends ground text at ≤ length text
  dot_inside =
      by_tokens
      (λ (at : ℕ). ends ground text at ≤ length text)
      (λ at e. rw (no_dot ground text at (token at) refl e) (omega arith))
      (λ at e. rw (dot_here ground text at (token at) refl e) (within ground text at (token at) refl))
      (λ at n e h. rw (dot_later ground text at (token at) refl n e) h)

  past_end : placed_from ground text (length text) ≡ []
  past_end = go (eqb (token (length text)).kind 20) refl
    where
      go : (b : Bool) → eqb (token (length text)).kind 20 ≡ b → placed_from ground text (length text) ≡ []
      go true e = placed_end ground text (length text) (token (length text)) refl (eqb-true _ 20 e)
      go false e =
          let o = forward ground text (length text) (token (length text)) refl (eqb-false _ 20 e) in
          let w = within ground text (length text) (token (length text)) refl in
          absurd (omega arith)

  -- the tokens behind the first dot are those from where it ends on
  pub behind_one : (at : ℕ) → behind_dots 1 (placed_from ground text at) ≡ placed_from ground text (ends ground text at)
  unfolding behind_dots
  behind_one =
      by_tokens
      (λ (at : ℕ). behind_dots 1 (placed_from ground text at) ≡ placed_from ground text (ends ground text at))
      (λ at e. ap (behind_dots 1) (placed_end ground text at (token at) refl e) ∙ inv past_end ∙ ap (placed_from ground text) (inv (no_dot ground text at (token at) refl e)))
      (λ at e. behind_here ground text at (token at) refl e ∙ ap (placed_from ground text) (inv (dot_here ground text at (token at) refl e)))
      (λ at n e h. behind_later ground text at (token at) refl n e ∙ h ∙ ap (placed_from ground text) (inv (dot_later ground text at (token at) refl n e)))

-- ---- dots one after the other

behind_none : (k : ℕ) → behind_dots k [] ≡ []
unfolding behind_dots
behind_none zero = refl
behind_none (suc k) = refl

behind_more : (k : ℕ) (ts : List (Placed Place Token)) → behind_dots (suc k) ts ≡ behind_dots k (behind_dots 1 ts)
unfolding behind_dots
behind_more k [] = inv (behind_none k)
behind_more k (t ∷ ts) = go (ends_rule t.token) refl (behind_more k ts)
  where
    go : (b : Bool) → ends_rule t.token ≡ b → behind_dots (suc k) ts ≡ behind_dots k (behind_dots 1 ts) → behind_dots (suc k) (t ∷ ts) ≡ behind_dots k (behind_dots 1 (t ∷ ts))
    go true e ih = rw e
    go false e ih = rw e ih

behind_last : (k : ℕ) (ts : List (Placed Place Token)) → behind_dots (suc k) ts ≡ behind_dots 1 (behind_dots k ts)
unfolding behind_dots
behind_last zero ts = refl
behind_last (suc k) ts = behind_more (suc k) ts ∙ behind_last k (behind_dots 1 ts) ∙ ap (behind_dots 1) (inv (behind_more k ts))

module _ (ground : Bool) (text : Bytes) where
  -- the tokens behind k dots are those from a place on
  pub record Reached (k at : ℕ) : Type 0 where
    pub rest : behind_dots k (placed_from ground text 0) ≡ placed_from ground text at

  pub reached_start : Reached 0 0
  unfolding behind_dots
  reached_start = record { rest = refl }

  pub reached_on : (k at : ℕ) → Reached k at → Reached (k + 1) (ends ground text at)
  reached_on k at r = record { rest = rw (add-one k) (behind_last k (placed_from ground text 0) ∙ ap (behind_dots 1) r.rest ∙ behind_one ground text at) }

  -- there is such a place for every k
  pub reached : (k : ℕ) → (at : ℕ) × Reached k at
  reached zero = (0, reached_start)
  reached (suc k) = let r = reached k in (ends ground text r.0, rw (← (add-one k)) (reached_on k r.0 r.1))

  -- rule k begins there
  pub reached_sentence : (k at : ℕ) → Reached k at → to_dot (end_of text) (placed_from ground text at) ≡ sentence ground text k
  unfolding sentence
  reached_sentence k at r = ap (to_dot (end_of text)) (inv r.rest)

  -- from a first token to its dot
  module _ (at : ℕ) (t : TokenRead) (et : t ≡ token_read ground text at) (n : t.kind ≡ 20 → ⊥) where
    pub start_before : t.place.start ≤ ends ground text at
    start_before = go (eqb t.kind 8) refl
      where
        go : (b : Bool) → eqb t.kind 8 ≡ b → t.place.start ≤ ends ground text at
        go true e = rw (dot_here ground text at t et (eqb-true t.kind 8 e)) (omega arith)
        go false e = rw (dot_later ground text at t et n (eqb-false t.kind 8 e)) (omega (arith, dot_behind ground text (next_of t) (within ground text at t et)))

    pub first_to_dot : to_dot (end_of text) (placed_from ground text at) ≡ with_len t.place (ends ground text at - t.place.start)
    unfolding to_dot
    first_to_dot = rw (placed_more ground text at t et n)
