-- Laws of lines as places: where the line behind one begins, with its line and column.
use Prim.Native.Nat.{ℕ, suc, ◌+◌, ◌≤◌, ◌<◌}
use native.Mathlib.Omega.{arith}
use mathlib.Core.Path.{◌≡◌, refl, sym, ap, ◌∙◌}
use mathlib.Core.Bool.{Bool, true, false, cond}
use mathlib.Core.List.{List}
use lib.Dec.{eqb}
use lib.ListN.{length, get_or, drop, length-drop}
use borrow.Author.Tests.{lt-ltb, le-ltb}
use Rattle.texts.specs.declared.place.Place.{Place}
use Rattle.texts.specs.Prefix.{in_line}
use Rattle.texts.specs.Place.{place_from, Stands, with_len, along, past, behind, Countable}
use Rattle.texts.specs.Parts.{bytes_in}
use Rattle.texts.proofs.Every.{prefix_inside}
use Rattle.texts.proofs.Counting.{from_stands, as_from, countable, along_stands, past_countable, behind_stands, behind_start}
use Rattle.report.specs.Lines.{next_line, line_at, end_of, WholeLine}
use Rattle.report.proofs.LineList.{its_end}

-- where no byte is left, the text ends
pub at_end : (text : List ℕ) (at : Place) → Stands text at → length text ≤ at.start → with_len at 0 ≡ end_of text
at_end text at s h = as_from text at s 0 ∙ ap (λ (n : ℕ). place_from text n 0) (let e : at.start ≡ length text = omega (arith, s.inside) in e)

-- a line that is had by its bytes, and where the line behind it begins
module _ (text line : List ℕ) (at : Place) (s : Stands text at) (e : line ≡ bytes_in text (line_at text at.start)) (place : Place) (p : place ≡ with_len at (length line)) where
  pub its_place : WholeLine text place
  its_place = rw p (record { stands = record { inside = s.inside; line = s.line; column = s.column }; whole = its_end text line at.start e })

  pub behind_its : (next : Place) → next ≡ place_from text (next_line text (place.start + place.len)) 0 → next ≡ place_from text (next_line text (at.start + length line)) 0
  behind_its next n = n ∙ ap (λ (q : Place). place_from text (next_line text (q.start + q.len)) 0) p

-- what stands behind a byte is empty
behind_empty : (p : Place) (b : ℕ) → with_len (behind p b) 0 ≡ behind p b
unfolding behind
behind_empty p b = go (eqb b 10)
  where
    go : (t : Bool) → with_len (cond t (record { start = p.start + 1; len = 0; line = p.line + 1; column = 1 }) (along p (p.start + 1))) 0 ≡ cond t (record { start = p.start + 1; len = 0; line = p.line + 1; column = 1 }) (along p (p.start + 1))
    go true = refl
    go false = refl

module _ (text : List ℕ) (line : Place) (w : WholeLine text line) where
  ends_inside : line.start + line.len ≤ length text
  ends_inside = omega (arith, w.whole, w.stands.inside, prefix_inside in_line (drop line.start text), length-drop line.start text)

  pub end_countable : length text < 9_223_372_036_854_775_808 → Countable line (line.start + line.len)
  end_countable f = past_countable text line w.stands ends_inside f

  module _ (end : Place) (e : end ≡ past line) where
    end_place : end ≡ place_from text (line.start + line.len) 0
    end_place = e ∙ as_from text (past line) (along_stands text line w.stands (line.start + line.len) (omega arith) (omega (arith, w.whole))) 0

    end_start : end.start ≡ line.start + line.len
    end_start = ap (λ (p : Place). p.start) e

    end_stands : Stands text end
    end_stands = rw end_place (from_stands text (line.start + line.len) 0 ends_inside)

    -- it has a newline
    module _ (h : end.start < length text) where
      pub newline_countable : length text < 9_223_372_036_854_775_808 → Countable end (suc end.start)
      newline_countable f = countable text end end_stands (suc end.start) (omega arith) (omega arith) f

      pub behind_newline : (r : Place) → r ≡ behind end (get_or text end.start 0) → r ≡ place_from text (next_line text (line.start + line.len)) 0
      unfolding next_line
      behind_newline r q =
          let b = get_or text end.start 0 in
          let s = behind_stands text end end_stands h in
          let i : line.start + line.len < length text = omega (arith, end_start) in
          q ∙ sym (behind_empty end b) ∙ as_from text (behind end b) s 0 ∙ ap (λ (n : ℕ). place_from text n 0) (behind_start end b ∙ ap (λ (n : ℕ). n + 1) end_start ∙ rw (lt-ltb _ _ i))

    -- it has none
    pub behind_last : length text ≤ end.start → end ≡ place_from text (next_line text (line.start + line.len)) 0
    unfolding next_line
    behind_last h =
        let i : length text ≤ line.start + line.len = omega (arith, end_start) in
        let j : line.start + line.len ≡ length text = omega (arith, ends_inside) in
        end_place ∙ ap (λ (n : ℕ). place_from text n 0) (j ∙ rw (le-ltb _ _ i))
