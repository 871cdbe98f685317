-- Laws of `gap`: blanks, then nothing, or a comment and what stands behind it; and lines and columns along it.
use Prim.Native.Nat.{ℕ, zero, suc, ◌+◌, ◌≤◌, ◌<◌}
use native.Mathlib.Nat.{zero-add, add-zero}
use native.Mathlib.Omega.{arith}
use mathlib.Core.Path.{◌≡◌, refl, sym, ◌∙◌}
use mathlib.Core.Bool.{Bool, true, false, not, ◌&&◌, ◌||◌, true≢false}
use mathlib.Core.List.{List, [], ◌∷◌}
use lib.Dec.{eqb}
use lib.ListN.{length, get_or, drop, length-drop}
use lib.Seq.{drop-drop, get_or-drop}
use borrow.Author.Tests.{eqb-true}
use Rattle.meaning.proofs.Booleans.{both}
use Rattle.texts.specs.declared.place.Place.{Place}
use Rattle.lexis.specs.Run.{is_blank}
use Rattle.texts.specs.Prefix.{in_line, prefix_len}
use Rattle.tokens.specs.Gap.{starts_comment, gap, comment}
use Rattle.texts.specs.Place.{Stands, along, countless, Countable}
use Rattle.texts.proofs.Prefix.{prefix_nil, prefix_more, prefix_none, prefix_rest, prefix_wider}
use Rattle.texts.proofs.Every.{prefix_inside}
use Rattle.texts.proofs.Counting.{countable, along_stands}

pub gap_blank : (program : Bool) (b : ℕ) (rest : List ℕ) → is_blank program b ≡ true → gap program (b ∷ rest) ≡ suc (gap program rest)
unfolding gap
gap_blank program b rest e = rw e

-- blanks, and the gap behind them
gap_blanks : (program : Bool) (s : List ℕ) → gap program s ≡ prefix_len (is_blank program) s + gap program (drop (prefix_len (is_blank program) s) s)
gap_blanks program [] = rw (prefix_nil (is_blank program)) (sym (zero-add _))
gap_blanks program (b ∷ rest) = go (is_blank program b) refl (gap_blanks program rest)
  where
    go : (t : Bool) → is_blank program b ≡ t → gap program rest ≡ prefix_len (is_blank program) rest + gap program (drop (prefix_len (is_blank program) rest) rest) → gap program (b ∷ rest) ≡ prefix_len (is_blank program) (b ∷ rest) + gap program (drop (prefix_len (is_blank program) (b ∷ rest)) (b ∷ rest))
    go true e ih = rw (prefix_more (is_blank program) b rest e, gap_blank program b rest e) (omega arith)
    go false e ih = rw (prefix_none (is_blank program) b rest e) (sym (zero-add _))

-- the line of a comment, and the gap behind it
comment_line : (s : List ℕ) → comment s ≡ prefix_len in_line s + gap true (drop (prefix_len in_line s) s)
unfolding gap prefix_len in_line is_blank
comment_line [] = refl
comment_line (b ∷ rest) = go (eqb b 10) refl (comment_line rest)
  where
    go : (t : Bool) → eqb b 10 ≡ t → comment rest ≡ prefix_len in_line rest + gap true (drop (prefix_len in_line rest) rest) → comment (b ∷ rest) ≡ prefix_len in_line (b ∷ rest) + gap true (drop (prefix_len in_line (b ∷ rest)) (b ∷ rest))
    go true e ih = rw (eqb-true b 10 e) (sym (zero-add _))
    go false e ih = rw e (omega arith)

pub no_gap : (program : Bool) (s : List ℕ) → prefix_len (is_blank program) s ≡ 0 → (program && starts_comment s) ≡ false → gap program s ≡ 0
unfolding gap
no_gap program [] h e = refl
no_gap program (b ∷ rest) h e = go (is_blank program b) refl
  where
    go : (t : Bool) → is_blank program b ≡ t → gap program (b ∷ rest) ≡ 0
    go true q = absurd (let z : suc (prefix_len (is_blank program) rest) ≡ 0 = sym (prefix_more (is_blank program) b rest q) ∙ h in omega arith)
    go false q = rw (q, e)

comment_gap : (s : List ℕ) → starts_comment s ≡ true → gap true s ≡ comment s
unfolding gap starts_comment is_blank
comment_gap [] e = refl
comment_gap (b ∷ rest) e =
    let p : b ≡ 37 = eqb-true b 37 (both _ _ e).0 in
    rw (e, p)

-- by the bytes at a place and behind it
pub starts_comment_at : (s : List ℕ) (i : ℕ) → starts_comment (drop i s) ≡ (eqb (get_or s i 0) 37 && not (eqb (get_or s (i + 1) 0) 42))
unfolding starts_comment
starts_comment_at s i = rw (get_or-drop i s 0 0, get_or-drop i s 1 0, add-zero i)

-- a comment has a byte
comment_starts : (s : List ℕ) → starts_comment s ≡ true → (0 < length s) × (0 < prefix_len in_line s)
unfolding starts_comment prefix_len in_line
comment_starts [] e = absurd (true≢false (sym e))
comment_starts (b ∷ rest) e =
    let p : b ≡ 37 = eqb-true b 37 (both _ _ e).0 in
    (omega arith, rw p (omega arith))

module _ (program : Bool) (s : List ℕ) (i j : ℕ) (ej : j ≡ i + prefix_len (is_blank program) (drop i s)) where
  behind_blanks : i + gap program (drop i s) ≡ j + gap program (drop j s)
  behind_blanks = rw (ej, ← (drop-drop (prefix_len (is_blank program) (drop i s)) i s), gap_blanks program (drop i s)) (omega arith)

  pub gap_stop : (program && starts_comment (drop j s)) ≡ false → j ≡ i + gap program (drop i s)
  gap_stop e =
      let b : prefix_len (is_blank program) (drop j s) ≡ 0 = rw (ej, ← (drop-drop (prefix_len (is_blank program) (drop i s)) i s)) (prefix_rest (is_blank program) (drop i s)) in
      let z : gap program (drop j s) ≡ 0 = no_gap program (drop j s) b e in
      omega (arith, behind_blanks)

  module _ (e : (program && starts_comment (drop j s)) ≡ true) (k : ℕ) (ek : k ≡ j + prefix_len in_line (drop j s)) where
    allowed : (program ≡ true) × (starts_comment (drop j s) ≡ true)
    allowed = both program (starts_comment (drop j s)) e

    pub gap_comment : i + gap program (drop i s) ≡ k + gap program (drop k s)
    gap_comment =
        let line : gap program (drop j s) ≡ prefix_len in_line (drop j s) + gap program (drop (prefix_len in_line (drop j s)) (drop j s)) = rw allowed.0 (comment_gap (drop j s) allowed.1 ∙ comment_line (drop j s)) in
        behind_blanks ∙ rw (ek, ← (drop-drop (prefix_len in_line (drop j s)) j s), line) (omega arith)

    pub comment_inside : (j < length s) × (j < k)
    comment_inside =
        let h = comment_starts (drop j s) allowed.1 in
        (omega (arith, length-drop j s), omega arith)

-- ---- behind a gap stands no blank

module _ (s : List ℕ) where
  abbrev blanks : ℕ
  blanks = prefix_len (is_blank true) s

  abbrev line : ℕ
  line = prefix_len in_line (drop blanks s)

  rest_plain : starts_comment (drop blanks s) ≡ false → prefix_len (is_blank true) (drop (gap true s) s) ≡ 0
  rest_plain e =
      let z : gap true s ≡ blanks = gap_blanks true s ∙ rw (no_gap true (drop blanks s) (prefix_rest (is_blank true) s) e) (add-zero blanks) in
      rw z (prefix_rest (is_blank true) s)

  rest_comment : starts_comment (drop blanks s) ≡ true → prefix_len (is_blank true) (drop (gap true (drop line (drop blanks s))) (drop line (drop blanks s))) ≡ 0 → prefix_len (is_blank true) (drop (gap true s) s) ≡ 0
  rest_comment e ih =
      let c : gap true (drop blanks s) ≡ line + gap true (drop line (drop blanks s)) = comment_gap (drop blanks s) e ∙ comment_line (drop blanks s) in
      let z : gap true s ≡ blanks + (line + gap true (drop line (drop blanks s))) = gap_blanks true s ∙ rw c in
      rw (z, ← (drop-drop (line + gap true (drop line (drop blanks s))) blanks s), ← (drop-drop (gap true (drop line (drop blanks s))) line (drop blanks s))) ih

  shorter : starts_comment (drop blanks s) ≡ true → length (drop line (drop blanks s)) < length s
  shorter e = let h = comment_starts (drop blanks s) e in omega (arith, length-drop line (drop blanks s), length-drop blanks s)

gap_rest : (n : ℕ) (s : List ℕ) → length s ≤ n → prefix_len (is_blank true) (drop (gap true s) s) ≡ 0
gap_rest zero s h = go (starts_comment (drop (blanks s) s)) refl
  where
    go : (t : Bool) → starts_comment (drop (blanks s) s) ≡ t → prefix_len (is_blank true) (drop (gap true s) s) ≡ 0
    go true e = absurd (let l = shorter s e in let z : ⊥ = omega arith in z)
    go false e = rest_plain s e
gap_rest (suc n) s h = go (starts_comment (drop (blanks s) s)) refl (gap_rest n (drop (line s) (drop (blanks s) s)))
  where
    go : (t : Bool) → starts_comment (drop (blanks s) s) ≡ t → (length (drop (line s) (drop (blanks s) s)) ≤ n → prefix_len (is_blank true) (drop (gap true (drop (line s) (drop (blanks s) s))) (drop (line s) (drop (blanks s) s))) ≡ 0) → prefix_len (is_blank true) (drop (gap true s) s) ≡ 0
    go true e ih = rest_comment s e (ih (let l = shorter s e in omega arith))
    go false e ih = rest_plain s e

pub behind_gap : (s : List ℕ) (at : ℕ) → prefix_len (is_blank true) (drop (at + gap true (drop at s)) s) ≡ 0
behind_gap s at = rw (← (drop-drop (gap true (drop at s)) at s)) (gap_rest (length (drop at s)) (drop at s) (omega arith))

-- ---- lines and columns along a gap

-- a blank of a facts line is no newline
line_blank : (b : ℕ) → is_blank false b ≡ true → in_line b ≡ true
unfolding is_blank in_line
line_blank b = go (eqb b 10) refl
  where
    go : (t : Bool) → eqb b 10 ≡ t → (eqb b 32 || (eqb b 9 || (eqb b 10 && false))) ≡ true → not (eqb b 10) ≡ true
    go true e h = absurd (true≢false (sym h ∙ rw (eqb-true b 10 e)))
    go false e h = rw e

module _ (text : List ℕ) (p : Place) (s : Stands text p) (end : ℕ) where
  -- behind what is left of a line
  pub line_stands : end ≡ p.start + prefix_len in_line (drop p.start text) → Stands text (along p end)
  line_stands e = along_stands text p s end (omega arith) (omega arith)

  -- behind the blanks of a facts line
  pub blanks_stand : end ≡ p.start + prefix_len (is_blank false) (drop p.start text) → Stands text (along p end)
  blanks_stand e = along_stands text p s end (omega arith) (omega (arith, prefix_wider (is_blank false) in_line line_blank (drop p.start text)))

  -- how far both go
  module _ (test : ℕ → Bool) (e : end ≡ p.start + prefix_len test (drop p.start text)) where
    pub run_countable : length text < countless → Countable p end
    run_countable f = let l = length-drop p.start text in let i = prefix_inside test (drop p.start text) in let w = s.inside in countable text p s end (omega arith) (omega arith) f
