-- Laws of `Reported`: by the first line that may not stand around the report, and where the lines behind it begin.
use Prim.Native.Nat.{ℕ, ◌+◌, ◌≤◌, ◌<◌}
use mathlib.Core.Path.{◌≡◌, refl, sym, ap, subst, ◌∙◌}
use mathlib.Core.Bool.{Bool, true, false, true≢false}
use mathlib.Core.List.{List}
use lib.Dec.{ltb}
use lib.ListN.{length}
use borrow.Author.Tests.{ltb-true, ltb-false}
use native.Mathlib.Omega.{arith}
use Rattle.std.specs.Prelude.{Result}
use Rattle.texts.specs.declared.place.Place.{Place}
use Rattle.texts.specs.declared.place.Span.{Span}
use Rattle.texts.specs.declared.refusal.Refused.{Refused}
use Rattle.texts.specs.Parts.{bytes_in, part}
use Rattle.texts.specs.Place.{place_from, text_start, Stands, with_len}
use Rattle.texts.specs.Places.{span_from}
use Rattle.texts.proofs.Counting.{from_stands, as_from}
use Rattle.report.specs.declared.word.Word.{Word}
use Rattle.report.specs.declared.word.Word.TheVariants.{Answer, Inconsistent, Unknown}
use Rattle.report.specs.declared.Report.{Report}
use Rattle.report.specs.declared.around.Found.{Found}
use Rattle.report.specs.declared.around.Found.TheVariants.{End, Line}
use Rattle.report.specs.Lines.{lines_from, lines, next_line, line_at, end_of, WholeLine}
use Rattle.report.specs.Around.{AllIdle, FirstOther, OutOfPlace, none, some}
use Rattle.report.specs.Word.{spelling, starts_with}
use Rattle.report.specs.Report.{refused, found, Says, beginning, reported, Reported, missing, stray, says}
use Rattle.report.proofs.LineList.{lines_none, lines_more, lines_its, lines_behind, next_inside}
use Rattle.report.proofs.Located.{at_end}

pub beginning_from : (text : List ℕ) (at : ℕ) → at ≤ length text → beginning text (lines_from text at) ≡ at
beginning_from text at h = go (ltb at (length text)) refl
  where
    go : (t : Bool) → ltb at (length text) ≡ t → beginning text (lines_from text at) ≡ at
    go true e = rw (lines_more text at (ltb-true at (length text) e))
    go false e =
        let k = ltb-false at (length text) e in
        rw (lines_none text at k) (omega arith)

module _ (text : List ℕ) (at : Place) (s : Stands text at) where
  pub answer_alone : length text ≤ at.start → reported text Answer (lines_from text at.start) ≡ refused (with_len at 0)
  answer_alone h = rw (lines_none text at.start h) (ap refused (sym (at_end text at s h)))

  pub answer_facts : at.start < length text → (line : List ℕ) → line ≡ bytes_in text (line_at text at.start) → reported text Answer (lines_from text at.start) ≡ found Answer (with_len at (length line)) (place_from text (next_line text (at.start + length line)) 0)
  answer_facts h line e = rw (lines_its text line at.start e h, beginning_from text (next_line text (at.start + length line)) (next_inside text (at.start + length line)), as_from text at s (length line))

-- the lines behind a line begin inside the text
pub next_stands : (text : List ℕ) (end : ℕ) {next : Place} → next ≡ place_from text (next_line text end) 0 → Stands text next
next_stands text end n = rw n (from_stands text (next_line text end) 0 (next_inside text end))

-- ---- the first line that may not stand around the report

none_first : (text : List ℕ) (at : ℕ) {r : Found} → OutOfPlace text at r → (end : Place) → r ≡ End end → AllIdle text (lines_from text at) × (end ≡ end_of text)
none_first text at (none all) end e = (all, cc)
none_first text at (some line behind f) end e = absurd (let z : ◌≡◌ {A = ℕ} 0 1 = cc in omega arith)

-- it lies inside the text and not before the place, and the lines behind it begin behind its newline
pub record FirstLine (text : List ℕ) (at : ℕ) (l : Place) : Type 0 where
  pub further : at ≤ l.start
  pub inside : l.start + l.len ≤ length text
  pub line : WholeLine text l
  pub first : FirstOther text (lines_from text at) (span_from l.start l.len) (lines_from text (next_line text (l.start + l.len)))

pub first_line : (text : List ℕ) (at : ℕ) {r : Found} → OutOfPlace text at r → (l : Place) → r ≡ Line l → FirstLine text at l
first_line text at (none all) l e = absurd (let z : ◌≡◌ {A = ℕ} 0 1 = cc in omega arith)
first_line text at (some line behind f) l e =
    let b = lines_behind text at f.before line behind f.split in
    subst (FirstLine text at) (cc)
    (record {
      further = b.further;
      inside = b.inside;
      line = record { stands = from_stands text line.start line.len (omega arith); whole = b.whole };
      first = subst (λ (ls : List Span). FirstOther text (lines_from text at) line ls) b.rest f;
    })

pub report_missing : (text : List ℕ) {end : Place} → OutOfPlace text 0 (End end) → (r : Result Report Refused) → r ≡ refused end → Reported text r
report_missing text {end} o r q = let n = none_first text 0 o end refl in rw (q, n.1) (missing n.0)

module _ (text : List ℕ) (line : Place) (o : OutOfPlace text 0 (Line line)) where
  pub line_whole : WholeLine text line
  line_whole = (first_line text 0 o line refl).line

  first : FirstOther text (lines text) (span_from line.start line.len) (lines_from text (next_line text (line.start + line.len)))
  first = (first_line text 0 o line refl).first

  -- by the line's bytes
  module _ (bytes : List ℕ) (b : bytes ≡ part text line) where
    pub report_stray : starts_with (spelling Answer) bytes ≡ false → starts_with (spelling Inconsistent) bytes ≡ false → starts_with (spelling Unknown) bytes ≡ false
        → (r : Result Report Refused) → r ≡ refused line → Reported text r
    report_stray a i u r q = rw (q, as_from text line line_whole.stands line.len) (stray (span_from line.start line.len) _ first none_of)
      where
        not_said : (word : Word) → starts_with (spelling word) bytes ≡ false → Says text (span_from line.start line.len) word → ⊥
        not_said word n s = true≢false (sym s ∙ ap (starts_with (spelling word)) (sym b) ∙ n)

        none_of : (word : Word) → Says text (span_from line.start line.len) word → ⊥
        none_of Answer s = not_said Answer a s
        none_of Inconsistent s = not_said Inconsistent i s
        none_of Unknown s = not_said Unknown u s

    module _ (next : Place) (n : next ≡ place_from text (next_line text (line.start + line.len)) 0) (word : Word) (s : starts_with (spelling word) bytes ≡ true) where
      pub report_says : (r : Result Report Refused) → r ≡ reported text word (lines_from text next.start) → Reported text r
      report_says r q = rw (q, n) (says (span_from line.start line.len) _ first word (ap (starts_with (spelling word)) (sym b) ∙ s))

      pub report_claims : ((ls : List Span) → reported text word ls ≡ found word text_start (place_from text (beginning text ls) 0)) → (r : Result Report Refused) → r ≡ found word text_start next → Reported text r
      report_claims claim r q =
          let at = next_line text (line.start + line.len) in
          let start : next.start ≡ at = ap (λ (p : Place). p.start) n in
          let begins : beginning text (lines_from text next.start) ≡ at = rw start (beginning_from text at (next_inside text (line.start + line.len))) in
          report_says r (q ∙ ap (found word text_start) (n ∙ ap (λ (m : ℕ). place_from text m 0) (sym begins)) ∙ sym (claim (lines_from text next.start)))
