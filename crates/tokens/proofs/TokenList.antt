-- Laws of `tokens_from`: it unrolls token by token, and the tokens rise.
use Prim.Native.Nat.{ℕ, zero, suc, ◌-◌, ◌≤◌, ◌<◌}
use native.Mathlib.Omega.{arith}
use mathlib.Core.Path.{◌≡◌, refl, sym, ap, ◌∙◌}
use mathlib.Core.Bool.{Bool, true, false}
use mathlib.Core.Logic.{inl, inr}
use mathlib.Core.List.Memᴰ
use mathlib.Core.List.{List, [], ◌∷◌, Memᴰ}
use lib.ListN.{length}
use Rattle.tokens.specs.declared.Token.{Token}
use Rattle.lexis.specs.Kind.{is_end}
use Rattle.tokens.specs.Token.{next_token}
use Rattle.tokens.specs.Tokens.{after, tokens_up_to, tokens_from, InOrder}
use Rattle.tokens.proofs.Next.{inside, not_empty, forward, onward}

module _ (program : Bool) (text : List ℕ) where
  abbrev next : ℕ → Token
  next at = next_token program text at

  up_to_end : (most at : ℕ) → is_end (next at).kind ≡ true → tokens_up_to most program text at ≡ []
  unfolding tokens_up_to
  up_to_end zero at e = refl
  up_to_end (suc most) at e = rw (e, tokens_up_to)

  up_to_more : (most at : ℕ) → is_end (next at).kind ≡ false → tokens_up_to (suc most) program text at ≡ next at ∷ tokens_up_to most program text (after (next at))
  unfolding tokens_up_to
  up_to_more most at e = rw (e, tokens_up_to)

  -- as many as there are bytes are all
  enough : (m n at : ℕ) → length text - at < m → length text - at < n → tokens_up_to m program text at ≡ tokens_up_to n program text at
  enough zero n at h k = absurd (let z : ⊥ = omega arith in z)
  enough (suc m) zero at h k = absurd (let z : ⊥ = omega arith in z)
  enough (suc m) (suc n) at h k = go (is_end (next at).kind) refl (enough m n (after (next at)))
    where
      go : (t : Bool) → is_end (next at).kind ≡ t
          → (length text - after (next at) < m → length text - after (next at) < n → tokens_up_to m program text (after (next at)) ≡ tokens_up_to n program text (after (next at)))
          → tokens_up_to (suc m) program text at ≡ tokens_up_to (suc n) program text at
      go true e ih = up_to_end (suc m) at e ∙ sym (up_to_end (suc n) at e)
      go false e ih =
          let f = onward program text at e in
          let i = inside program text at in
          up_to_more m at e ∙ ap (λ (ts : List Token). next at ∷ ts) (ih (omega arith) (omega arith)) ∙ sym (up_to_more n at e)

  module _ (at : ℕ) where
    pub tokens_end : is_end (next at).kind ≡ true → tokens_from program text at ≡ []
    unfolding tokens_from
    tokens_end e = up_to_end (suc (length text - at)) at e

    pub tokens_more : is_end (next at).kind ≡ false → tokens_from program text at ≡ next at ∷ tokens_from program text (after (next at))
    unfolding tokens_from
    tokens_more e =
        let t = next at in
        let f = onward program text at e in
        let i = inside program text at in
        up_to_more (length text - at) at e
        ∙ ap (λ (ts : List Token). t ∷ ts) (enough (length text - at) (suc (length text - after t)) (after t) (omega arith) (omega arith))

  up_to_in_order : (most at : ℕ) → at ≤ length text → InOrder (length text) at (tokens_up_to most program text at)
  unfolding tokens_up_to
  up_to_in_order zero at h = h
  up_to_in_order (suc most) at h = go (is_end (next at).kind) refl (up_to_in_order most (after (next at)) (inside program text at))
    where
      go : (t : Bool) → is_end (next at).kind ≡ t → InOrder (length text) (after (next at)) (tokens_up_to most program text (after (next at))) → InOrder (length text) at (tokens_up_to (suc most) program text at)
      go true e ih = rw (up_to_end (suc most) at e) h
      go false e ih = rw (up_to_more most at e) (forward program text at h, not_empty program text at e, ih)

  -- the tokens rise: each starts where the one before it ended or later, and the last ends inside the text
  pub tokens_in_order : (at : ℕ) → at ≤ length text → InOrder (length text) at (tokens_from program text at)
  unfolding tokens_from
  tokens_in_order at h = up_to_in_order (suc (length text - at)) at h

in_order_end : (end at : ℕ) (ts : List Token) → InOrder end at ts → at ≤ end
in_order_end end at [] o = o
in_order_end end at (t ∷ ts) o = omega (arith, o.0, in_order_end end (after t) ts o.2)

-- so the first of the tokens is the leftmost, and all lie inside
pub in_order_member : (end at : ℕ) (ts : List Token) → InOrder end at ts → (u : Token) → Memᴰ u ts → (at ≤ u.place.start) × (after u ≤ end)
in_order_member end at [] o u m = absurd (Memᴰ.not-nil m)
in_order_member end at (t ∷ ts) o u m = elim (Memᴰ.cases_cons m) [ inl e ↦ first e | inr n ↦ later (in_order_member end (after t) ts o.2 u n) ]
  where
    first : u ≡ t → (at ≤ u.place.start) × (after u ≤ end)
    first e = rw e (o.0, in_order_end end (after t) ts o.2)

    later : (after t ≤ u.place.start) × (after u ≤ end) → (at ≤ u.place.start) × (after u ≤ end)
    later h = (omega (arith, o.0, h.0), h.1)
