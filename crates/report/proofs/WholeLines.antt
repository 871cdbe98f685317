-- The lines of a text are in order and unbroken, and joined with newlines they are the text; and no other spans are.
use Prim.Native.Nat.{ℕ, zero, suc, ◌+◌, ◌-◌, ◌<◌}
use native.Mathlib.Nat.{add-zero}
use native.Mathlib.Omega.{arith}
use mathlib.Core.Path.{◌≡◌, refl, sym, ap, subst, ◌∙◌}
use mathlib.Core.Bool.{Bool, true, false}
use mathlib.Core.Logic.{◌⊎◌, inl, inr, ⊎_elim}
use mathlib.Core.List.{List, [], ◌∷◌, ◌++◌, nil≢cons, tail-eq_of_cons-eq}
use lib.Dec.{eqb}
use lib.ListN.{length, take, drop, length-drop}
use lib.Seq.{drop-drop}
use Rattle.meaning.proofs.Booleans.{both}
use Rattle.texts.specs.declared.place.Span.{Span}
use Rattle.texts.specs.Prefix.{in_line, every}
use Rattle.texts.specs.Parts.{bytes_in}
use borrow.Author.Tests.{eqb-true, eq-eqb, not-true}
use Rattle.texts.proofs.Every.{every_nil}
use Rattle.texts.specs.Places.{span_from}
use Rattle.report.specs.Lines.{longer, lines_at, lines, InOrder, joined, ended, AreLines}
use Rattle.report.proofs.LineList.{lines_nil, lines_newline, lines_longer, others_in}

ended_newline : (b : ℕ) (rest : List ℕ) → eqb b 10 ≡ true → ended (b ∷ rest) ≡ b ∷ ended rest
ended_newline b [] e = rw e
ended_newline b (c ∷ more) e = refl

not_empty : {A : Type 0} (xs : List ℕ) (y : ℕ) (ys : List ℕ) → xs ++ (y ∷ ys) ≡ [] → A
not_empty [] y ys e = absurd (nil≢cons (sym e))
not_empty (x ∷ xs) y ys e = absurd (nil≢cons (sym e))

-- bytes that end with a newline already, behind another byte
ended_more : (b : ℕ) (rest xs : List ℕ) (y : ℕ) (ys : List ℕ) → xs ++ (y ∷ ys) ≡ ended rest → ended (b ∷ rest) ≡ b ∷ ended rest
ended_more b [] xs y ys e = not_empty xs y ys e
ended_more b (c ∷ more) xs y ys e = refl

ended_none : (rest : List ℕ) → [] ≡ ended rest → rest ≡ []
ended_none [] e = refl
ended_none (b ∷ []) e = absurd (nil≢cons e)
ended_none (b ∷ c ∷ more) e = absurd (nil≢cons e)

every_more : (b : ℕ) (rest : List ℕ) → in_line b ≡ true → every in_line rest ≡ true → every in_line (b ∷ rest) ≡ true
unfolding every
every_more b rest e f = rw e f

every_first : (b : ℕ) (rest : List ℕ) → every in_line (b ∷ rest) ≡ true → (in_line b ≡ true) × (every in_line rest ≡ true)
unfolding every
every_first b rest e = both (in_line b) (every in_line rest) e

-- ---- the lines are lines

module _ (text : List ℕ) (at b : ℕ) (rest : List ℕ) (e : drop at text ≡ b ∷ rest) where
  here : at < length text
  here =
      let z : length (drop at text) ≡ suc (length rest) = ap length e in
      omega (arith, length-drop at text)

  next : drop (suc at) text ≡ rest
  next =
      let one : at + 1 ≡ suc at = omega arith in
      ap (λ (i : ℕ). drop i text) (sym one) ∙ sym (drop-drop 1 at text) ∙ ap (drop 1) e

  -- the bytes of a line that starts here: the first of them, and those of a line that starts behind it
  bytes_more : (n : ℕ) → bytes_in text (span_from at (suc n)) ≡ b ∷ bytes_in text (span_from (suc at) n)
  bytes_more n = rw (e, next)

  newline_are : eqb b 10 ≡ true → (ls : List Span) → AreLines text (suc at) rest ls → AreLines text at (b ∷ rest) (span_from at 0 ∷ ls)
  newline_are q ls h =
      let f = here in
      record {
        in_order = (refl, f, omega arith, rw (add-zero at) h.in_order);
        unbroken = (every_nil in_line, h.unbroken);
        whole = rw (ended_newline b rest q, eqb-true b 10 q, h.whole);
      }

  longer_are : eqb b 10 ≡ false → (ls : List Span) → AreLines text (suc at) rest ls → AreLines text at (b ∷ rest) (longer at ls)
  longer_are q [] h =
      let f = here in
      record {
        in_order = (refl, f, omega arith, tt);
        unbroken = (rw (bytes_more 0) (every_more b [] (others_in b q) (every_nil in_line)), tt);
        whole = rw (bytes_more 0, ended_none rest h.whole, q);
      }
  longer_are q (l ∷ ls) h =
      let f = here in
      let same : bytes_in text l ≡ bytes_in text (span_from (suc at) l.len) = ap (λ (i : ℕ). take l.len (drop i text)) h.in_order.0 in
      let shift : suc (suc at + l.len) ≡ suc (at + suc l.len) = omega arith in
      record {
        in_order = (refl, f, omega (arith, h.in_order.2), subst (λ (i : ℕ). InOrder (length text) i ls) shift h.in_order.3);
        unbroken = (rw (bytes_more l.len, ← same) (every_more b (bytes_in text l) (others_in b q) h.unbroken.0), h.unbroken.1);
        whole = rw (bytes_more l.len, ← same, h.whole) (sym (ended_more b rest (bytes_in text l) 10 (joined text ls) h.whole));
      }

are : (text : List ℕ) (at : ℕ) (bytes : List ℕ) → drop at text ≡ bytes → AreLines text at bytes (lines_at at bytes)
are text at [] e = rw (lines_nil at) (record { in_order = tt; unbroken = tt; whole = refl })
are text at (b ∷ rest) e = go (eqb b 10) refl (are text (suc at) rest (next text at b rest e))
  where
    go : (t : Bool) → eqb b 10 ≡ t → AreLines text (suc at) rest (lines_at (suc at) rest) → AreLines text at (b ∷ rest) (lines_at at (b ∷ rest))
    go true q ih = rw (lines_newline at b rest q) (newline_are text at b rest e q (lines_at (suc at) rest) ih)
    go false q ih = rw (lines_longer at b rest q) (longer_are text at b rest e q (lines_at (suc at) rest) ih)

pub lines_are : (text : List ℕ) → AreLines text 0 text (lines text)
lines_are text = are text 0 text refl

-- ---- nothing else is

joined_none : (text : List ℕ) (ls : List Span) → joined text ls ≡ [] → ls ≡ []
joined_none text [] e = refl
joined_none text (l ∷ ls) e = not_empty (bytes_in text l) 10 (joined text ls) e

ended_first : (b : ℕ) (rest : List ℕ) → (tail : List ℕ) × (ended (b ∷ rest) ≡ b ∷ tail)
ended_first b [] = (_, refl)
ended_first b (c ∷ more) = (_, refl)

ended_last : (b : ℕ) (rest : List ℕ) → (rest ≡ []) ⊎ ((0 < length rest) × (ended (b ∷ rest) ≡ b ∷ ended rest))
ended_last b [] = inl refl
ended_last b (c ∷ more) = inr (omega arith, refl)

module _ (text : List ℕ) (at b : ℕ) (rest : List ℕ) (e : drop at text ≡ b ∷ rest) (ih : (ls : List Span) → AreLines text (suc at) rest ls → ls ≡ lines_at (suc at) rest) where
  only_newline : (ls : List Span) → AreLines text at (b ∷ rest) (span_from at 0 ∷ ls) → span_from at 0 ∷ ls ≡ lines_at at (b ∷ rest)
  only_newline ls h =
      let first = ended_first b rest in
      let start : 10 ∷ joined text ls ≡ b ∷ first.0 = h.whole ∙ first.1 in
      let byte : b ≡ 10 = cc in
      let q : eqb b 10 ≡ true = eq-eqb b 10 byte in
      let tail : b ∷ ended rest ≡ 10 ∷ joined text ls = sym (ended_newline b rest q) ∙ sym h.whole in
      let are_rest : AreLines text (suc at) rest ls = record { in_order = rw (add-zero at) at h.in_order.3; unbroken = h.unbroken.1; whole = cc } in
      rw (lines_newline at b rest q) (ap (λ (ms : List Span). span_from at 0 ∷ ms) (ih ls are_rest))

  module _ (n : ℕ) (ls : List Span) (h : AreLines text at (b ∷ rest) (span_from at (suc n) ∷ ls)) where
    left : length text - at ≡ suc (length rest)
    left = sym (length-drop at text) ∙ ap length e

    unbroken : (in_line b ≡ true) × (every in_line (bytes_in text (span_from (suc at) n)) ≡ true)
    unbroken = every_first b (bytes_in text (span_from (suc at) n)) (rw (bytes_more text at b rest e n) at h.unbroken.0)

    whole : b ∷ (bytes_in text (span_from (suc at) n) ++ (10 ∷ joined text ls)) ≡ ended (b ∷ rest)
    whole = rw (bytes_more text at b rest e n) at h.whole

    other : eqb b 10 ≡ false
    unfolding in_line
    other = not-true (eqb b 10) unbroken.0

    only_last : rest ≡ [] → span_from at (suc n) ∷ ls ≡ lines_at at (b ∷ rest)
    only_last q =
        let none : n ≡ 0 = omega (arith, left, ap length q, h.in_order.2) in
        let bytes : bytes_in text (span_from (suc at) n) ≡ [] = rw none in
        let all : b ∷ (bytes_in text (span_from (suc at) n) ++ (10 ∷ joined text ls)) ≡ b ∷ 10 ∷ [] = whole ∙ rw (q, other) in
        let behind : 10 ∷ joined text ls ≡ 10 ∷ [] = rw bytes at (tail-eq_of_cons-eq all) in
        rw (none, joined_none text ls (tail-eq_of_cons-eq behind), lines_longer at b rest other, q, lines_nil (suc at))

    only_more : (0 < length rest) × (ended (b ∷ rest) ≡ b ∷ ended rest) → span_from at (suc n) ∷ ls ≡ lines_at at (b ∷ rest)
    only_more q =
        let shift : suc (at + suc n) ≡ suc (suc at + n) = omega arith in
        let shorter : AreLines text (suc at) rest (span_from (suc at) n ∷ ls) =
        record {
          in_order = (refl, omega (arith, left), omega (arith, h.in_order.2), subst (λ (i : ℕ). InOrder (length text) i ls) shift h.in_order.3);
          unbroken = (unbroken.1, h.unbroken.1);
          whole = tail-eq_of_cons-eq (whole ∙ q.1);
        } in
        ap (longer at) (ih (span_from (suc at) n ∷ ls) shorter) ∙ sym (lines_longer at b rest other)

    only_longer : span_from at (suc n) ∷ ls ≡ lines_at at (b ∷ rest)
    only_longer = ⊎_elim only_last only_more (ended_last b rest)

only : (text : List ℕ) (at : ℕ) (bytes : List ℕ) → drop at text ≡ bytes → (ls : List Span) → AreLines text at bytes ls → ls ≡ lines_at at bytes
only text at [] e ls h = rw (lines_nil at) (joined_none text ls h.whole)
only text at (b ∷ rest) e [] h = absurd (nil≢cons (sym (ended_none (b ∷ rest) h.whole)))
only text at (b ∷ rest) e (l ∷ ls) h = go l.start l.len h.in_order.0 h (only text (suc at) rest (next text at b rest e))
  where
    go : (start len : ℕ) → start ≡ at → AreLines text at (b ∷ rest) (span_from start len ∷ ls)
        → ((ms : List Span) → AreLines text (suc at) rest ms → ms ≡ lines_at (suc at) rest) → span_from start len ∷ ls ≡ lines_at at (b ∷ rest)
    go start zero q k ih = rw q (only_newline text at b rest e ih ls (rw q at k))
    go start (suc n) q k ih = rw q (only_longer text at b rest e ih n ls (rw q at k))

pub lines_only : (text : List ℕ) (ls : List Span) → AreLines text 0 text ls → ls ≡ lines text
lines_only text ls h = only text 0 text refl ls h
