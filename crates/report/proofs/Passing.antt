-- Laws of `OutOfPlace`: what a loop over the lines does in a turn, where it stops, and at the end.
use Prim.Native.Nat.{ℕ, ◌+◌, ◌≤◌, ◌<◌}
use mathlib.Core.Path.{◌≡◌, ap, ◌∙◌}
use mathlib.Core.Bool.{true, false}
use mathlib.Core.List.{List, [], ◌∷◌}
use lib.ListN.{length}
use Rattle.texts.specs.declared.place.Place.{Place}
use Rattle.texts.specs.declared.place.Span.{Span}
use Rattle.texts.specs.Parts.{bytes_in}
use Rattle.texts.specs.Place.{Stands, with_len}
use Rattle.texts.specs.Places.{span_from}
use Rattle.texts.proofs.Counting.{as_from}
use Rattle.report.specs.declared.around.Found.{Found}
use Rattle.report.specs.declared.around.Found.TheVariants.{End, Line}
use Rattle.report.specs.Lines.{lines_from, next_line, line_at}
use Rattle.report.specs.Around.{is_idle, OutOfPlace, none, some}
use Rattle.report.proofs.LineList.{lines_none, its_bytes, lines_its}
use Rattle.report.proofs.Located.{at_end}

module _ (text : List ℕ) (at : Place) (s : Stands text at) where
  pub none_left : length text ≤ at.start → OutOfPlace text at.start (End (with_len at 0))
  none_left h = rw (at_end text at s h) (none (rw (lines_none text at.start h) tt))

  -- a loop has the line that starts at a place by its bytes
  module _ (line : List ℕ) (e : line ≡ bytes_in text (line_at text at.start)) (h : at.start < length text) where
    abbrev here : Span
    here = span_from at.start (length line)

    pub stop_here : is_idle line ≡ false → OutOfPlace text at.start (Line (with_len at (length line)))
    stop_here o =
        rw (as_from text at s (length line))
        (some here (lines_from text (next_line text (at.start + length line)))
        (record { before = []; split = lines_its text line at.start e h; idle = tt; other = ap is_idle (its_bytes text line at.start e) ∙ o }))

    pub pass_on : is_idle line ≡ true → {r : Found} → OutOfPlace text (next_line text (at.start + length line)) r → OutOfPlace text at.start r
    pass_on i (none all) = none (rw (lines_its text line at.start e h) (ap is_idle (its_bytes text line at.start e) ∙ i, all))
    pass_on i (some other behind f) =
        some other behind
        (record { before = here ∷ f.before; split = lines_its text line at.start e h ∙ ap (λ (ls : List Span). here ∷ ls) f.split; idle = (ap is_idle (its_bytes text line at.start e) ∙ i, f.idle); other = f.other })
