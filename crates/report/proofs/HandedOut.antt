-- Laws of `HandsOut`: a reader hands out the lines from its place on, in order, and ends; and it hands out nothing else.
use Prim.Native.Nat.{ℕ, ◌+◌, ◌≤◌, ◌<◌}
use native.Mathlib.Omega.{arith}
use mathlib.Core.Path.{◌≡◌, refl, sym, ap, ap₂, ◌∙◌}
use mathlib.Core.Bool.{Bool, true, false}
use mathlib.Core.List.{List, [], ◌∷◌, nil≢cons}
use lib.ListN.{length}
use denote.Ref.{Bor}
use borrow.Author.Tests.{ltb-true, ltb-false, lt-ltb}
use Rattle.std.specs.Prelude.{None}
use Rattle.texts.specs.declared.place.Span.{Span}
use Rattle.report.specs.declared.reader.Lines.{Lines}
use Rattle.texts.specs.Parts.{bytes_in}
use Rattle.report.specs.Lines.{has_line, next_line, line_at, behind_line, lines_from, lines, AreLines}
use Rattle.report.specs.Reader.{reader_at, has_next, next, behind, HandsOn, HandsOut, ends, goes_on}
use Rattle.report.proofs.LineList.{lines_none, lines_more, lines_cons, its_end}
use Rattle.report.proofs.WholeLines.{lines_are}

-- the reader moved past a line that is had by its bytes
pub stands_behind : (text line : List ℕ) (at : ℕ) → line ≡ bytes_in text (line_at text at) → {next : ℕ} → next ≡ next_line text (at + length line) → next ≡ behind_line text at
stands_behind text line at e n = n ∙ ap (next_line text) (its_end text line at e)

pub fewer_left : (text : List ℕ) (at : ℕ) → at < length text → {next : ℕ} → next ≡ behind_line text at → length (lines_from text next) < length (lines_from text at)
fewer_left text at h n = rw (n, lines_more text at h) (omega arith)

-- a reader of the text that stands at a place, and what it hands out there
pub record StandsAt (text : List ℕ) (at : ℕ) (reader : Lines) : Type 0 where
  pub same : reader.text.now ≡ text
  pub here : reader.at ≡ at

pub record Handed (text : List ℕ) (at : ℕ) (line : List ℕ) (after : Lines) : Type 0 where
  pub here : at < length text
  pub bytes : line ≡ bytes_in text (line_at text at)
  pub on : StandsAt text (behind_line text at) after

module _ {text : List ℕ} {at : ℕ} {before : Lines} (s : StandsAt text at before) where
  pub handed : {line : List ℕ} {after : Lines} → (has_next before ≡ true) × (line ≡ bytes_in before.text.now (next before)) × (after ≡ behind before) → Handed text at line after
  handed h =
      let place = λ (t : List ℕ) (i : ℕ). bytes_in t (line_at t i) in
      record {
        here = ltb-true _ _ (ap₂ has_line (sym s.same) (sym s.here) ∙ h.0);
        bytes = h.1 ∙ ap₂ place s.same s.here;
        on = record { same = ap (λ (r : Lines). r.text.now) h.2 ∙ s.same; here = ap (λ (r : Lines). r.at) h.2 ∙ ap₂ behind_line s.same s.here };
      }

  pub none_handed : {after : Lines} → HandsOn before None after → length text ≤ at
  none_handed h = ltb-false _ _ (ap₂ has_line (sym s.same) (sym s.here) ∙ h.0)

no_line : (text : List ℕ) (at : ℕ) → lines_from text at ≡ [] → has_line text at ≡ false
no_line text at e = go (has_line text at) refl
  where
    go : (t : Bool) → has_line text at ≡ t → t ≡ false
    go true b = absurd (nil≢cons (sym e ∙ lines_more text at (ltb-true _ _ b)))
    go false b = refl

reads_from : (text : Bor (List ℕ)) (at : ℕ) (ls : List Span) → lines_from text.now at ≡ ls → HandsOut (reader_at text at) ls
reads_from text at [] e = ends (reader_at text at) (no_line text.now at e)
reads_from text at (l ∷ ls) e =
    let m = lines_cons text.now at l ls e in
    rw m.1 (goes_on (reader_at text at) ls (lt-ltb _ _ m.0) (reads_from text (behind_line text.now at) ls (sym m.2)))

reads_only : (reader : Lines) (ls : List Span) → HandsOut reader ls → ls ≡ lines_from reader.text.now reader.at
reads_only _ _ (ends reader h) = sym (lines_none _ _ (ltb-false _ _ h))
reads_only _ _ (goes_on reader ls h rest) = ap (λ (ms : List Span). next reader ∷ ms) (reads_only (behind reader) ls rest) ∙ sym (lines_more _ _ (ltb-true _ _ h))

-- from a text's start on: its lines, and then none is left
pub hands_out : (text : Bor (List ℕ)) → HandsOut (reader_at text 0) (lines text.now)
hands_out text = reads_from text 0 (lines text.now) refl

pub hands_out_only : (text : Bor (List ℕ)) (ls : List Span) → HandsOut (reader_at text 0) ls → ls ≡ lines text.now
hands_out_only text ls h = reads_only (reader_at text 0) ls h

-- so what is handed out has no newline, and with a newline behind each line it is the text
pub handed_out_are : (text : Bor (List ℕ)) (ls : List Span) → HandsOut (reader_at text 0) ls → AreLines text.now 0 text.now ls
handed_out_are text ls h = rw (hands_out_only text ls h) (lines_are text.now)
