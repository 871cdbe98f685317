-- Laws of `lines_from`: it unrolls line by line, and a line may be had by its bytes.
use Prim.Native.Nat.{ℕ, suc, ◌+◌, ◌-◌, ◌≤◌, ◌<◌}
use native.Mathlib.Nat.{add-zero, min-eq_left}
use native.Mathlib.Omega.{arith}
use mathlib.Core.Path.{◌≡◌, refl, sym, ap, ◌∙◌}
use mathlib.Core.Bool.{Bool, true, false}
use mathlib.Core.List.{List, [], ◌∷◌, ◌++◌, nil≢cons}
use lib.Dec.{eqb, ltb}
use lib.ListN.{length, drop, length-take, length-drop, drop_of_length-le}
use lib.Seq.{drop-drop}
use borrow.Author.Tests.{ltb-true, ltb-false}
use Rattle.texts.specs.declared.place.Span.{Span}
use Rattle.texts.specs.Prefix.{in_line, prefix_len}
use Rattle.texts.proofs.Prefix.{prefix_nil, prefix_more, prefix_none}
use Rattle.texts.proofs.Every.{prefix_inside}
use Rattle.texts.specs.Parts.{bytes_in}
use Rattle.texts.specs.Places.{span_from}
use Rattle.report.specs.Lines.{longer, lines_at, lines_from, line_end, next_line, line_at}

pub lines_nil : (at : ℕ) → lines_at at [] ≡ []
unfolding lines_at
lines_nil at = refl

module _ (at b : ℕ) (rest : List ℕ) where
  pub lines_newline : eqb b 10 ≡ true → lines_at at (b ∷ rest) ≡ span_from at 0 ∷ lines_at (suc at) rest
  unfolding lines_at
  lines_newline e = rw e

  pub lines_longer : eqb b 10 ≡ false → lines_at at (b ∷ rest) ≡ longer at (lines_at (suc at) rest)
  unfolding lines_at
  lines_longer e = rw e

module _ (b : ℕ) where
  pub newline_out : eqb b 10 ≡ true → in_line b ≡ false
  unfolding in_line
  newline_out e = rw e

  pub others_in : eqb b 10 ≡ false → in_line b ≡ true
  unfolding in_line
  others_in e = rw e

-- a line of n bytes at a place, and the lines behind it: `rest` stands behind the line's first byte, or behind its newline
abbrev unrolled : ℕ → ℕ → List ℕ → List Span
unrolled at n rest = span_from at n ∷ lines_at (suc at + n) (drop n rest)

longer_none : (at : ℕ) → longer at (lines_at (suc at) []) ≡ unrolled at (suc (prefix_len in_line [])) []
longer_none at = rw (lines_nil (suc at), lines_nil (suc at + suc (prefix_len in_line [])), prefix_nil in_line)

longer_more : (at b : ℕ) (rest : List ℕ) → lines_at (suc at) (b ∷ rest) ≡ unrolled (suc at) (prefix_len in_line (b ∷ rest)) rest
    → longer at (lines_at (suc at) (b ∷ rest)) ≡ unrolled at (suc (prefix_len in_line (b ∷ rest))) (b ∷ rest)
longer_more at b rest e =
    let shift : suc (suc at) + prefix_len in_line (b ∷ rest) ≡ suc at + suc (prefix_len in_line (b ∷ rest)) = omega arith in
    rw (e, shift)

by_first_byte : (at b : ℕ) (rest : List ℕ) → longer at (lines_at (suc at) rest) ≡ unrolled at (suc (prefix_len in_line rest)) rest
    → lines_at at (b ∷ rest) ≡ unrolled at (prefix_len in_line (b ∷ rest)) rest
by_first_byte at b rest longer_line = go (eqb b 10) refl
  where
    go : (t : Bool) → eqb b 10 ≡ t → lines_at at (b ∷ rest) ≡ unrolled at (prefix_len in_line (b ∷ rest)) rest
    go true e = rw (prefix_none in_line b rest (newline_out b e), add-zero (suc at)) (lines_newline at b rest e)
    go false e = rw (prefix_more in_line b rest (others_in b e)) (lines_longer at b rest e ∙ longer_line)

first_line : (at b : ℕ) (rest : List ℕ) → lines_at at (b ∷ rest) ≡ unrolled at (prefix_len in_line (b ∷ rest)) rest
first_line at b [] = by_first_byte at b [] (longer_none at)
first_line at b (c ∷ more) = by_first_byte at b (c ∷ more) (longer_more at c more (first_line (suc at) c more))

module _ (text : List ℕ) (at : ℕ) where
  pub lines_none : length text ≤ at → lines_from text at ≡ []
  lines_none h = rw (drop_of_length-le text h) (lines_nil at)

  pub end_inside : at < length text → line_end text at ≤ length text
  end_inside h = let p = prefix_inside in_line (drop at text) in omega (arith, length-drop at text)

behind_newline : (text : List ℕ) (end : ℕ) → lines_from text (end + 1) ≡ lines_from text (next_line text end)
unfolding next_line
behind_newline text end = go (ltb end (length text)) refl
  where
    go : (t : Bool) → ltb end (length text) ≡ t → lines_from text (end + 1) ≡ lines_from text (next_line text end)
    go true e = rw e
    go false e = rw e (lines_none text (end + 1) (omega (arith, ltb-false end (length text) e)) ∙ sym (lines_none text (length text) (omega arith)))

unrolled_at : (at : ℕ) (s : List ℕ) → 0 < length s → lines_at at s ≡ span_from at (prefix_len in_line s) ∷ lines_at (suc at + prefix_len in_line s) (drop (suc (prefix_len in_line s)) s)
unrolled_at at [] h = absurd (let z : ⊥ = omega arith in z)
unrolled_at at (b ∷ rest) h = first_line at b rest

-- the line that starts at a place, and the lines from the next one on
pub lines_more : (text : List ℕ) (at : ℕ) → at < length text → lines_from text at ≡ span_from at (line_end text at - at) ∷ lines_from text (next_line text (line_end text at))
lines_more text at h =
    let n = prefix_len in_line (drop at text) in
    let len : line_end text at - at ≡ n = omega arith in
    let shift : suc at + n ≡ line_end text at + 1 = omega arith in
    let next : at + suc n ≡ suc at + n = omega arith in
    let rest : drop (suc n) (drop at text) ≡ drop (suc at + n) text = drop-drop (suc n) at text ∙ ap (λ (i : ℕ). drop i text) next in
    rw (len, ← (behind_newline text (line_end text at)), ← shift, ← rest) (unrolled_at at (drop at text) (omega (arith, length-drop at text)))

-- a line that is had by its bytes: its end, its span, and the lines from it on
module _ (text line : List ℕ) (at : ℕ) (e : line ≡ bytes_in text (line_at text at)) where
  its_length : length line ≡ line_end text at - at
  its_length =
      let inside = prefix_inside in_line (drop at text) in
      let fits : line_end text at - at ≤ length (drop at text) = omega arith in
      ap length e ∙ length-take (line_at text at).len (drop at text) ∙ min-eq_left fits

  pub its_end : at + length line ≡ line_end text at
  its_end = omega (arith, its_length)

  pub its_bytes : bytes_in text (span_from at (length line)) ≡ line
  its_bytes = ap (λ (n : ℕ). bytes_in text (span_from at n)) its_length ∙ sym e

  pub lines_its : at < length text → lines_from text at ≡ span_from at (length line) ∷ lines_from text (next_line text (at + length line))
  lines_its h = rw (its_end, its_length) (lines_more text at h)

-- the line behind a line begins inside the text, and further on
pub next_inside : (text : List ℕ) (end : ℕ) → next_line text end ≤ length text
unfolding next_line
next_inside text end = go (ltb end (length text)) refl
  where
    go : (t : Bool) → ltb end (length text) ≡ t → next_line text end ≤ length text
    go true e = rw e (omega (arith, ltb-true end (length text) e))
    go false e = rw e (omega arith)

pub less_left : (text : List ℕ) (at : ℕ) → at < length text → (end : ℕ) → end ≡ line_end text at → (next : ℕ) → next ≡ next_line text end → length text - next < length text - at
unfolding next_line
less_left text at h end f next n = go (ltb end (length text)) refl
  where
    go : (t : Bool) → ltb end (length text) ≡ t → length text - next < length text - at
    go true e = let z : next ≡ end + 1 = rw (n, e) in omega arith
    go false e = let z : next ≡ length text = rw (n, e) in omega arith

-- where there is a line, it is the one that starts there, and the others begin behind it
pub lines_cons : (text : List ℕ) (at : ℕ) (l : Span) (ls : List Span) → lines_from text at ≡ l ∷ ls
    → (at < length text) × (l ≡ span_from at (line_end text at - at)) × (ls ≡ lines_from text (next_line text (line_end text at)))
lines_cons text at l ls e = go (ltb at (length text)) refl
  where
    go : (t : Bool) → ltb at (length text) ≡ t → (at < length text) × (l ≡ span_from at (line_end text at - at)) × (ls ≡ lines_from text (next_line text (line_end text at)))
    go true b =
        let h = ltb-true at (length text) b in
        let m = lines_more text at h in
        (h, cc, cc)
    go false b = absurd (nil≢cons (sym (lines_none text at (ltb-false at (length text) b)) ∙ e))

-- a line, of those from a place on, and the lines behind it
pub record Among (text : List ℕ) (at : ℕ) (l : Span) (behind : List Span) : Type 0 where
  pub further : at ≤ l.start
  pub inside : l.start + l.len ≤ length text
  pub whole : l.start + l.len ≡ line_end text l.start
  pub rest : behind ≡ lines_from text (next_line text (l.start + l.len))

pub lines_behind : (text : List ℕ) (at : ℕ) (before : List Span) (l : Span) (behind : List Span) → lines_from text at ≡ before ++ (l ∷ behind) → Among text at l behind
lines_behind text at [] l behind e =
    let m = lines_cons text at l behind e in
    let start : l.start ≡ at = rw m.1 in
    let end : l.start + l.len ≡ line_end text at = rw m.1 (omega arith) in
    record { further = omega arith; inside = omega (arith, end_inside text at m.0); whole = end ∙ ap (line_end text) (sym start); rest = rw end m.2 }
lines_behind text at (b ∷ before) l behind e =
    let m = lines_cons text at b (before ++ (l ∷ behind)) e in
    let h = lines_behind text (next_line text (line_end text at)) before l behind (sym m.2) in
    let f = less_left text at m.0 (line_end text at) refl (next_line text (line_end text at)) refl in
    record { further = omega arith; inside = h.inside; whole = h.whole; rest = h.rest }
