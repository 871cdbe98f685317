-- A token lies on one line, so that what stands behind it stands on its line.
use Prim.Native.Nat.{ℕ, suc, ◌+◌, ◌-◌, ◌≤◌}
use native.Mathlib.Omega.{arith}
use mathlib.Core.Path.{◌≡◌, refl, sym, ap, ◌∙◌}
use mathlib.Core.Bool.{Bool, true, false, not, cond, ◌&&◌, and-false, true≢false}
use mathlib.Core.List.{List, [], ◌∷◌}
use lib.Dec.{eqb, ltb}
use lib.ListN.{length, get_or, take, drop, length-drop}
use borrow.Author.Tests.{eqb-true, ltb-true, ltb-false}
use Rattle.meaning.proofs.Booleans.{both}
use Rattle.lexis.specs.declared.class.Class.{Class}
use Rattle.lexis.specs.declared.class.Class.TheVariants.{Lower, Upper, Digit, Underscore, Other}
use Rattle.lexis.specs.declared.run.Run.TheVariants.{Word, Digits}
use Rattle.lexis.specs.declared.kind.Kind.{Kind}
use Rattle.lexis.specs.declared.kind.Kind.TheVariants.{Stray, String}
use Rattle.texts.specs.declared.place.Place.{Place}
use Rattle.tokens.specs.declared.Token.{Token}
use Rattle.lexis.specs.Class.{class_of}
use Rattle.lexis.specs.Run.{is_blank, goes_on}
use Rattle.texts.specs.Prefix.{in_line, prefix_len, every}
use Rattle.lexis.specs.Strings.{quote, closing}
use Rattle.tokens.specs.Gap.{gap}
use Rattle.lexis.specs.Kind.{is_end, is_stray}
use Rattle.lexis.specs.Spelling.{pair_kind, mark_kind, number_kind, string_kind, kind_from, kind_of}
use Rattle.tokens.specs.Longest.{Found}
use Rattle.texts.specs.Place.{place_from, Stands, past}
use Rattle.tokens.specs.Token.{next_token}
use Rattle.texts.proofs.Prefix.{drop_at, prefix_more}
use Rattle.texts.proofs.Every.{not_every_beyond}
use Rattle.lexis.proofs.Strings.{closing_in_line}
use Rattle.texts.proofs.Counting.{from_stands, along_stands}
use Rattle.tokens.proofs.Gaps.{behind_gap}
use Rattle.lexis.proofs.KindNumber.{is_stray_lem}
use Rattle.tokens.proofs.Between.{blank_stray}
use Rattle.tokens.proofs.Next.{inside, end_place, next_found, next_kind}

-- ---- the bytes of a token are no newlines

word_in_line : (b : ℕ) → goes_on Word b ≡ true → in_line b ≡ true
unfolding in_line class_of
word_in_line b = go (eqb b 10) refl
  where
    go : (t : Bool) → eqb b 10 ≡ t → goes_on Word b ≡ true → not (eqb b 10) ≡ true
    go true e h = absurd (true≢false (sym h ∙ rw (eqb-true b 10 e)))
    go false e h = rw e

digit_in_line : (b : ℕ) → goes_on Digits b ≡ true → in_line b ≡ true
unfolding in_line class_of
digit_in_line b = go (eqb b 10) refl
  where
    go : (t : Bool) → eqb b 10 ≡ t → goes_on Digits b ≡ true → not (eqb b 10) ≡ true
    go true e h = absurd (true≢false (sym h ∙ rw (eqb-true b 10 e)))
    go false e h = rw e

every_wider : (p q : ℕ → Bool) → ((b : ℕ) → p b ≡ true → q b ≡ true) → (bytes : List ℕ) → every p bytes ≡ true → every q bytes ≡ true
unfolding every
every_wider p q wider [] h = refl
every_wider p q wider (b ∷ rest) h = let k = both (p b) (every p rest) h in rw (wider b k.0) (every_wider p q wider rest k.1)

passed : (t : Bool) (kind : Kind) → is_stray (cond t kind Stray) ≡ false → t ≡ true
passed true kind h = refl
passed false kind h = absurd (true≢false h)

second_in_line : (b c : ℕ) → is_stray (pair_kind b c) ≡ false → in_line c ≡ true
unfolding pair_kind in_line
second_in_line b c h = go (eqb c 10) refl
  where
    go : (t : Bool) → eqb c 10 ≡ t → not (eqb c 10) ≡ true
    go true e = absurd (true≢false (sym (ap is_stray stray) ∙ h))
      where
        stray : pair_kind b c ≡ Stray
        stray = rw (eqb-true c 10 e) (simp and-false)
    go false e = rw e

string_in_line : (rest : List ℕ) → is_stray (string_kind rest) ≡ false → every in_line rest ≡ true
string_in_line [] h = absurd (true≢false h)
string_in_line (c ∷ rest) h = closing_in_line (c ∷ rest) (eqb-true _ (suc (length rest)) (passed (eqb (closing false (c ∷ rest)) (suc (length rest))) String h)) (omega arith)

mark_in_line : (b : ℕ) (rest : List ℕ) → is_stray (mark_kind b rest) ≡ false → every in_line rest ≡ true
unfolding every
mark_in_line b [] h = refl
mark_in_line b (c ∷ []) h = rw (second_in_line b c h)
mark_in_line b (c ∷ d ∷ rest) h = absurd (true≢false h)

-- by the class of the first byte
rest_in_line : (class : Class) (b : ℕ) (rest : List ℕ) → is_stray (kind_from class b rest) ≡ false → every in_line rest ≡ true
unfolding every
rest_in_line Lower b rest h = every_wider (goes_on Word) in_line word_in_line rest (passed (every (goes_on Word) rest) _ h)
rest_in_line Upper b rest h = every_wider (goes_on Word) in_line word_in_line rest (passed (every (goes_on Word) rest) _ h)
rest_in_line Digit b rest h = go (eqb b 48) rest h
  where
    go : (t : Bool) (rest : List ℕ) → is_stray (number_kind t rest) ≡ false → every in_line rest ≡ true
    go true [] h = refl
    go true (c ∷ rest) h = absurd (true≢false h)
    go false rest h = every_wider (goes_on Digits) in_line digit_in_line rest (passed (every (goes_on Digits) rest) _ h)
rest_in_line Underscore b [] h = refl
rest_in_line Underscore b (c ∷ rest) h = absurd (true≢false h)
rest_in_line Other b rest h = go (eqb b quote) h
  where
    go : (t : Bool) → is_stray (cond t (string_kind rest) (mark_kind b rest)) ≡ false → every in_line rest ≡ true
    go true k = string_in_line rest k
    go false k = mark_in_line b rest k

newline_blank : (b : ℕ) → eqb b 10 ≡ true → is_blank true b ≡ true
unfolding is_blank
newline_blank b e = rw (eqb-true b 10 e)

bytes_in_line : (bytes : List ℕ) → is_stray (kind_of bytes) ≡ false → every in_line bytes ≡ true
unfolding kind_of every in_line
bytes_in_line [] h = refl
bytes_in_line (b ∷ rest) h = go (eqb b 10) refl
  where
    go : (t : Bool) → eqb b 10 ≡ t → (not (eqb b 10) && every in_line rest) ≡ true
    go true e = absurd (true≢false (sym (ap is_stray (blank_stray true b rest (newline_blank b e))) ∙ h))
    go false e = rw e (rest_in_line (class_of b) b rest h)

-- so a token reaches no further than its line
within_line : (text : List ℕ) (len : ℕ) → len ≤ length text → is_stray (kind_of (take len text)) ≡ false → len ≤ prefix_len in_line text
within_line text len i h = go (ltb (prefix_len in_line text) len) refl
  where
    go : (t : Bool) → ltb (prefix_len in_line text) len ≡ t → len ≤ prefix_len in_line text
    go true e = absurd (true≢false (sym (bytes_in_line (take len text) h) ∙ not_every_beyond in_line text len (ltb-true _ len e) i))
    go false e = ltb-false (prefix_len in_line text) len e

module _ (program : Bool) (text : List ℕ) (at : ℕ) where
  abbrev next : Token
  next = next_token program text at

  -- a token has the line and the column of its start
  next_placed : next.place ≡ place_from text next.place.start next.place.len
  next_placed = go (is_end next.kind) refl
    where
      go : (t : Bool) → is_end next.kind ≡ t → next.place ≡ place_from text next.place.start next.place.len
      go true e = rw (end_place program text at e)
      go false e = let f = next_found program text at e in rw (ap (λ (q : Place). q.start) f.place) f.place

  pub next_stands : Stands text next.place
  next_stands = rw next_placed (from_stands text next.place.start next.place.len (omega (arith, inside program text at)))

  -- behind a part that reaches no further than its line
  past_line : (t : Token) → t.place ≡ place_from text t.place.start t.place.len → t.place.start + t.place.len ≤ length text → t.place.len ≤ prefix_len in_line (drop t.place.start text) → Stands text (past t.place)
  past_line t e i h =
      let n : t.place.start + t.place.len - t.place.start ≡ t.place.len = omega arith in
      let s = from_stands text t.place.start t.place.len (omega arith) in
      rw (ap past e) (along_stands text (place_from text t.place.start t.place.len) s (t.place.start + t.place.len) (omega arith) (rw n h))

  -- behind a token that is not stray, and behind every token of a program, stands its own line
  past_stray : (is_stray next.kind ≡ true → program ≡ true) → is_end next.kind ≡ false → next.place.len ≤ prefix_len in_line (drop next.place.start text)
  unfolding in_line
  past_stray p e = go (is_stray next.kind) refl
    where
      f : Found text (at + gap program (drop at text)) next
      f = next_found program text at e

      start : next.place.start ≡ at + gap program (drop at text)
      start = ap (λ (q : Place). q.start) f.place

      go : (t : Bool) → is_stray next.kind ≡ t → next.place.len ≤ prefix_len in_line (drop next.place.start text)
      go false q = within_line (drop next.place.start text) next.place.len (omega (arith, inside program text at, length-drop next.place.start text)) (ap is_stray (next_kind program text at e) ∙ q)
      go true q = rw one (first (eqb b 10) refl)
        where
          one : next.place.len ≡ 1
          one = f.longest.stray (is_stray_lem next.kind q)

          b : ℕ
          b = get_or text next.place.start 0

          here : drop next.place.start text ≡ b ∷ drop (next.place.start + 1) text
          here = drop_at text next.place.start (omega (arith, f.here, start))

          blank_free : prefix_len (is_blank true) (drop next.place.start text) ≡ 0
          blank_free = rw (start, p q) (behind_gap text at)

          first : (t : Bool) → eqb b 10 ≡ t → 1 ≤ prefix_len in_line (drop next.place.start text)
          first true g = absurd (let z : suc (prefix_len (is_blank true) (drop (next.place.start + 1) text)) ≡ 0 = sym (prefix_more (is_blank true) b _ (newline_blank b g)) ∙ sym (ap (prefix_len (is_blank true)) here) ∙ blank_free in omega arith)
          first false g = rw (here, prefix_more in_line b (drop (next.place.start + 1) text) (not_newline g)) (omega arith)
            where
              not_newline : eqb b 10 ≡ false → in_line b ≡ true
              not_newline g = rw g

  pub past_stands : (is_stray next.kind ≡ true → program ≡ true) → Stands text (past next.place)
  past_stands p = go (is_end next.kind) refl
    where
      go : (t : Bool) → is_end next.kind ≡ t → Stands text (past next.place)
      go true e = past_line next next_placed (inside program text at) (rw (end_place program text at e) (omega arith))
      go false e = past_line next next_placed (inside program text at) (past_stray p e)
