-- The tokens of a rule as far as its dot: the first occurrences of its variables among them, by their numbers and in their order.
use mathlib.Core.Path.{◌≡◌, refl, sym as inv, ap, ◌∙◌}
use mathlib.Core.Bool.{Bool, true, false, cond, false≢true}
use mathlib.Core.Logic.{◌⊎◌, inl, inr}
use mathlib.Core.Option.{none, some}
use mathlib.Core.List.{[], ◌∷◌, ◌++◌}
use Prim.Native.Nat.{ℕ, zero, suc, ◌+◌, ◌≤◌, ◌<◌}
use native.Mathlib.Omega.{arith}
use native.Mathlib.Nat.{add-zero}
use lib.Dec.{ltb}
use lib.ListN.{length, get_or}
use borrow.Author.Tests.{lt-ltb, le-ltb}
use Rattle.texts.specs.declared.place.Place.{Place}
use Rattle.reading.specs.Reading.{Placed, unplaced, seen}
use Rattle.reading.proofs.Lists.{none_some, some_inj}
use Rattle.meaning.specs.Rules.{Bytes}
use Rattle.meaning.specs.Domain.{equal, unequal, less, at_most, greater, at_least}
use Rattle.grammar.specs.Tokens.{Sign, sign, <>, underscore, not, minus, opening, closing, comma, dot, :-, plus, times, bar, Token, name, variable, string, number, comparison, symbol, stray}
use Rattle.grammar.specs.Variables.{Variables, number_of, with_variable, meet_symbol, meet}
use Rattle.grammar.specs.Sizes.{programs}
use Rattle.grammar.specs.Moves.{symbol_number, comparison_number, sign_number, token_number}
use Rattle.syntax.specs.Ahead.{ends_rule, is_first, if_first, firsts, behind_dot}
use Rattle.syntax.proofs.Variables.{length_more}
use Rattle.program.specs.Unbound.{Tokens, dots}

pub comparison_goes : (r : Sign) → ends_rule (comparison r) ≡ false
unfolding token_number sign_number comparison_number
comparison_goes (sign equal) = refl
comparison_goes (sign unequal) = refl
comparison_goes (sign less) = refl
comparison_goes (sign at_most) = refl
comparison_goes (sign greater) = refl
comparison_goes (sign at_least) = refl
comparison_goes <> = refl

-- ---- one token: it ends the rule, a variable is met at it for the first time, or neither

pub data Meeting (vs : Variables) (t : Token) : Type 0 where
  ends : ends_rule t ≡ true → is_first vs t ≡ false → meet vs t ≡ [] → Meeting vs t
  meets : ends_rule t ≡ false → is_first vs t ≡ true → length (meet vs t) ≡ suc (length vs) → Meeting vs t
  passes : ends_rule t ≡ false → is_first vs t ≡ false → meet vs t ≡ vs → Meeting vs t

module _ (vs : Variables) where
  not_less : ltb (length vs) (length vs) ≡ false
  not_less = le-ltb (length vs) (length vs) (omega arith)

  one_more : {t : Token} → ends_rule t ≡ false → length (meet vs t) ≡ suc (length vs) → Meeting vs t
  one_more {t} e h = meets e (rw h (lt-ltb (length vs) (suc (length vs)) (omega arith))) h

  variable_meeting : (b : Bytes) → Meeting vs (variable b)
  unfolding token_number symbol_number meet with_variable
  variable_meeting b = go (ltb (number_of b vs) (length vs)) refl
    where
      go : (c : Bool) → ltb (number_of b vs) (length vs) ≡ c → Meeting vs (variable b)
      go true e = passes refl (rw e not_less) (rw e)
      go false e = one_more refl (rw e (length_more vs (some b)))

  pub meeting : (t : Token) → Meeting vs t
  unfolding token_number symbol_number meet meet_symbol
  meeting (name b) = passes refl not_less refl
  meeting (variable b) = variable_meeting b
  meeting (string b) = passes refl not_less refl
  meeting (number n) = passes refl not_less refl
  meeting (comparison r) = passes (comparison_goes r) not_less refl
  meeting (symbol underscore) = one_more refl (length_more vs none)
  meeting (symbol not) = passes refl not_less refl
  meeting (symbol minus) = passes refl not_less refl
  meeting (symbol opening) = passes refl not_less refl
  meeting (symbol closing) = passes refl not_less refl
  meeting (symbol comma) = passes refl not_less refl
  meeting (symbol dot) = ends refl (le-ltb (length vs) 0 (omega arith)) refl
  meeting (symbol :-) = passes refl not_less refl
  meeting (symbol plus) = passes refl not_less refl
  meeting (symbol times) = passes refl not_less refl
  meeting (symbol bar) = passes refl not_less refl
  meeting (stray b) = passes refl not_less refl

-- ---- the first occurrences, as far as the first dot

-- at token i the variable with number k is met for the first time, and p is the token's place; vs: the variables that are met before
abbrev pub FirstAt : Variables → Tokens → (i k : ℕ) → Place → Type 0
FirstAt vs [] i k p = ⊥
FirstAt vs (t ∷ ts) zero k p = (is_first vs t.token ≡ true) × (k ≡ length vs) × (p ≡ t.place)
FirstAt vs (t ∷ ts) (suc i) k p = (ends_rule t.token ≡ false) × FirstAt (meet vs t.token) ts i k p

module _ (vs : Variables) (t : Placed Place Token) (ts : Tokens) where
  pub firsts_ends : ends_rule t.token ≡ true → firsts vs (t ∷ ts) ≡ []
  unfolding firsts
  firsts_ends e = rw e

  pub firsts_meets : ends_rule t.token ≡ false → is_first vs t.token ≡ true → firsts vs (t ∷ ts) ≡ t.place ∷ firsts (meet vs t.token) ts
  unfolding firsts if_first
  firsts_meets e f = rw (e, f)

  pub firsts_passes : ends_rule t.token ≡ false → is_first vs t.token ≡ false → meet vs t.token ≡ vs → firsts vs (t ∷ ts) ≡ firsts vs ts
  unfolding firsts if_first
  firsts_passes e f m = rw (e, f, m)

same_first : (vs : Variables) (ts : Tokens) (i : ℕ) {k l : ℕ} {p q : Place} → k ≡ l → p ≡ q → FirstAt vs ts i k p → FirstAt vs ts i l q
same_first vs ts i e f h = rw (e, f) at h

-- each place among them is that of a token
pub first_of : (vs : Variables) (ts : Tokens) (y : ℕ) (d : Place) → y < length (firsts vs ts) → (i : ℕ) × FirstAt vs ts i (length vs + y) (get_or (firsts vs ts) y d)
unfolding firsts
first_of vs [] y d h = absurd (omega arith)
first_of vs (t ∷ ts) y d h = go (meeting vs t.token) y h (first_of (meet vs t.token) ts)
  where
    go : Meeting vs t.token → (z : ℕ) → z < length (firsts vs (t ∷ ts)) → ((w : ℕ) (e : Place) → w < length (firsts (meet vs t.token) ts) → (i : ℕ) × FirstAt (meet vs t.token) ts i (length (meet vs t.token) + w) (get_or (firsts (meet vs t.token) ts) w e)) → (i : ℕ) × FirstAt vs (t ∷ ts) i (length vs + z) (get_or (firsts vs (t ∷ ts)) z d)
    go (ends e f m) z k rec = absurd (omega (arith, ap length (firsts_ends vs t ts e)))
    go (meets e f m) zero k rec = (0, (f, add-zero (length vs), rw (firsts_meets vs t ts e f)))
    go (meets e f m) (suc z) k rec =
        let r = rec z d (omega (arith, ap length (firsts_meets vs t ts e f))) in
        (suc r.0, (e, same_first (meet vs t.token) ts r.0 (omega arith) (inv (ap (λ l. get_or l (suc z) d) (firsts_meets vs t ts e f))) r.1))
    go (passes e f m) z k rec =
        let q = firsts_passes vs t ts e f m in
        let r = rec z d (rw (m, ← q) k) in
        (suc r.0, (e, same_first (meet vs t.token) ts r.0 (ap (λ l. length l + z) m) (ap (λ l. get_or (firsts l ts) z d) m ∙ inv (ap (λ l. get_or l z d) q)) r.1))

-- and each such token's number is that of a place
pub number_of_first : (vs : Variables) (ts : Tokens) (i k : ℕ) (p : Place) → FirstAt vs ts i k p → (y : ℕ) × (k ≡ length vs + y) × (y < length (firsts vs ts))
number_of_first vs [] i k p h = absurd h
number_of_first vs (t ∷ ts) i k p h = go (meeting vs t.token) i h (λ j. number_of_first (meet vs t.token) ts j k p)
  where
    go : Meeting vs t.token → (j : ℕ) → FirstAt vs (t ∷ ts) j k p → ((l : ℕ) → FirstAt (meet vs t.token) ts l k p → (y : ℕ) × (k ≡ length (meet vs t.token) + y) × (y < length (firsts (meet vs t.token) ts))) → (y : ℕ) × (k ≡ length vs + y) × (y < length (firsts vs (t ∷ ts)))
    go (ends e f m) zero a rec = absurd (false≢true (inv f ∙ a.0))
    go (ends e f m) (suc j) a rec = absurd (false≢true (inv a.0 ∙ e))
    go (meets e f m) zero a rec = (0, omega (arith, a.1), omega (arith, ap length (firsts_meets vs t ts e f)))
    go (meets e f m) (suc j) a rec = let r = rec j a.1 in (suc r.0, omega (arith, r.1), omega (arith, r.2, ap length (firsts_meets vs t ts e f)))
    go (passes e f m) zero a rec = absurd (false≢true (inv f ∙ a.0))
    go (passes e f m) (suc j) a rec = let r = rec j a.1 in (r.0, omega (arith, r.1, ap length m), omega (arith, r.2, ap length (firsts_passes vs t ts e f m), ap (λ l. length (firsts l ts)) m))

-- a lower number is met earlier
pub first_order : (vs : Variables) (ts : Tokens) (i j k l : ℕ) (p q : Place) → FirstAt vs ts i k p → FirstAt vs ts j l q → k ≤ l → i ≤ j
first_order vs [] i j k l p q g h o = absurd g
first_order vs (t ∷ ts) zero j k l p q g h o = omega arith
first_order vs (t ∷ ts) (suc i) zero k l p q g h o = go (meeting vs t.token)
  where
    go : Meeting vs t.token → suc i ≤ 0
    go (ends e f m) = absurd (false≢true (inv f ∙ h.0))
    go (meets e f m) = let r = number_of_first (meet vs t.token) ts i k p g.1 in absurd (omega (arith, r.1, h.1))
    go (passes e f m) = absurd (false≢true (inv f ∙ h.0))
first_order vs (t ∷ ts) (suc i) (suc j) k l p q g h o = omega (arith, first_order (meet vs t.token) ts i j k l p q g.1 h.1 o)

-- ---- such a token, with the tokens before it

pub record Standing (vs : Variables) (ts : Tokens) (i k : ℕ) (p : Place) : Type 0 where
  pub before : Tokens
  pub token : Placed Place Token
  pub after : Tokens
  pub here : before ++ token ∷ after ≡ ts
  pub position : length before ≡ i
  pub no_dot : dots before ≡ 0
  pub first : is_first (seen programs vs (unplaced before)) token.token ≡ true
  pub number : length (seen programs vs (unplaced before)) ≡ k
  pub place : token.place ≡ p

pub standing : (vs : Variables) (ts : Tokens) (i k : ℕ) (p : Place) → FirstAt vs ts i k p → Standing vs ts i k p
unfolding dots seen unplaced
standing vs [] i k p h = absurd h
standing vs (t ∷ ts) zero k p h = record { before = []; token = t; after = ts; here = refl; position = refl; no_dot = refl; first = h.0; number = inv h.1; place = inv h.2 }
standing vs (t ∷ ts) (suc i) k p h = let s = standing (meet vs t.token) ts i k p h.1 in record { before = t ∷ s.before; token = s.token; after = s.after; here = ap (λ l. t ∷ l) s.here; position = ap suc s.position; no_dot = rw h.0 s.no_dot; first = s.first; number = s.number; place = s.place }

dot_before : (t : Placed Place Token) (before : Tokens) → dots (t ∷ before) ≡ 0 → (ends_rule t.token ≡ false) × (dots before ≡ 0)
unfolding dots
dot_before t before h = go (ends_rule t.token) refl h
  where
    go : (b : Bool) → ends_rule t.token ≡ b → cond b (suc (dots before)) (dots before) ≡ 0 → (ends_rule t.token ≡ false) × (dots before ≡ 0)
    go true e k = absurd (omega arith)
    go false e k = (e, k)

pub first_standing : (vs : Variables) (before : Tokens) (t : Placed Place Token) (after : Tokens) → dots before ≡ 0 → is_first (seen programs vs (unplaced before)) t.token ≡ true → FirstAt vs (before ++ t ∷ after) (length before) (length (seen programs vs (unplaced before))) t.place
unfolding seen unplaced
first_standing vs [] t after d f = (f, refl, refl)
first_standing vs (u ∷ before) t after d f = let e = dot_before u before d in (e.0, first_standing (meet vs u.token) before t after e.1 f)

-- ---- as far as the dot

unfoldable pub to_dot : Tokens → Tokens
to_dot [] = []
to_dot (t ∷ ts) = t ∷ cond (ends_rule t.token) [] (to_dot ts)

-- the tokens as far as the dot, and the rest behind it
pub record Cut (ts rest : Tokens) : Type 0 where
  pub whole : to_dot ts ++ rest ≡ ts
  pub one_dot : dots (to_dot ts) ≡ 1
  pub forgets : (vs : Variables) → seen programs vs (unplaced (to_dot ts)) ≡ []

pub cut : (ts rest : Tokens) → behind_dot ts ≡ some rest → Cut ts rest
unfolding behind_dot to_dot dots seen unplaced
cut [] rest h = absurd (none_some h)
cut (t ∷ ts) rest h = go (ends_rule t.token) refl (cut ts rest)
  where
    onward : ends_rule t.token ≡ false → Cut ts rest → Cut (t ∷ ts) rest
    onward e c = record { whole = rw e (ap (λ l. t ∷ l) c.whole); one_dot = rw e c.one_dot; forgets = λ vs. rw e (c.forgets (meet vs t.token)) }

    ended : (vs : Variables) → Meeting vs t.token → ends_rule t.token ≡ true → meet vs t.token ≡ []
    ended vs (ends e f m) g = m
    ended vs (meets e f m) g = absurd (false≢true (inv e ∙ g))
    ended vs (passes e f m) g = absurd (false≢true (inv e ∙ g))

    go : (b : Bool) → ends_rule t.token ≡ b → (behind_dot ts ≡ some rest → Cut ts rest) → Cut (t ∷ ts) rest
    go true e rec = let z : ts ≡ rest = some_inj (rw e at h) in record { whole = rw (e, z); one_dot = rw e; forgets = λ vs. rw e (ended vs (meeting vs t.token) e) }
    go false e rec = onward e (rec (rw e at h))

-- a token stands before the dot, or it is the dot or stands behind it
pub before_or_behind : (before : Tokens) (t : Placed Place Token) (after : Tokens) → (dots before ≡ 0) ⊎ (length (to_dot (before ++ t ∷ after)) ≤ length before)
unfolding dots to_dot
before_or_behind [] t after = inl refl
before_or_behind (u ∷ before) t after = go (ends_rule u.token) (before_or_behind before t after)
  where
    go : (b : Bool) → (dots before ≡ 0) ⊎ (length (to_dot (before ++ t ∷ after)) ≤ length before) → (cond b (suc (dots before)) (dots before) ≡ 0) ⊎ (suc (length (cond b [] (to_dot (before ++ t ∷ after)))) ≤ suc (length before))
    go true r = inr (omega arith)
    go false (inl d) = inl d
    go false (inr d) = inr (omega arith)

pub first_inside : (vs : Variables) (ts : Tokens) (i k : ℕ) (p : Place) → FirstAt vs ts i k p → i < length (to_dot ts)
unfolding to_dot
first_inside vs [] i k p h = absurd h
first_inside vs (t ∷ ts) zero k p h = omega arith
first_inside vs (t ∷ ts) (suc i) k p h = let r = first_inside (meet vs t.token) ts i k p h.1 in rw h.0 (omega arith)
