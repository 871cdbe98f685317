-- The places of an answer lie inside the output and have its lines and columns; and the facts line is one line, left of every line behind
-- the report.
use Prim.Native.Nat.{ℕ, ◌+◌, ◌≤◌}
use native.Mathlib.Omega.{arith}
use mathlib.Core.Path.{◌≡◌, refl, sym, ap, ◌∙◌}
use mathlib.Core.Bool.{Bool, true, false}
use mathlib.Core.List.{List, [], ◌∷◌}
use lib.Dec.{ltb}
use lib.ListN.{length, drop}
use Rattle.std.specs.Prelude.{Result, Ok, Err}
use Rattle.texts.specs.declared.place.Place.{Place}
use Rattle.texts.specs.declared.place.Span.{Span}
use Rattle.texts.specs.declared.refusal.Refused.{Refused}
use Rattle.texts.specs.declared.refusal.Refusal.TheVariants.{Misplaced}
use Rattle.texts.specs.Prefix.{in_line, prefix_len}
use Rattle.texts.specs.Place.{place_from, text_start, Stands}
use Rattle.texts.proofs.Counting.{start_stands, from_stands}
use Rattle.report.specs.declared.word.Word.{Word}
use Rattle.report.specs.declared.word.Word.TheVariants.{Answer, Inconsistent, Unknown}
use Rattle.report.specs.declared.Report.{Report}
use Rattle.report.specs.Lines.{next_line, located, end_of}
use Rattle.report.specs.Report.{refused, found, beginning, reported, Reported, missing, stray, says}
use Rattle.report.proofs.LineList.{Among, lines_behind, next_inside}
use Rattle.report.proofs.Reporting.{beginning_from}

pub record ReportInside (text : List ℕ) (r : Report) : Type 0 where
  pub facts : r.facts.start + r.facts.len ≤ r.next.start
  pub next : r.next.start ≤ length text
  pub facts_stands : Stands text r.facts
  pub next_stands : Stands text r.next
  pub one_line : r.facts.len ≤ prefix_len in_line (drop r.facts.start text)

-- a refusal is 2
pub record RefusedInside (text : List ℕ) (e : Refused) : Type 0 where
  pub misplaced : e.refusal ≡ Misplaced
  pub place : e.place.start + e.place.len ≤ length text
  pub place_stands : Stands text e.place

abbrev pub Inside : List ℕ → Result Report Refused → Type 0
Inside text (Ok r) = ReportInside text r
Inside text (Err e) = RefusedInside text e

end_next : (text : List ℕ) (end : ℕ) → end ≤ length text → end ≤ next_line text end
unfolding next_line
end_next text end h = go (ltb end (length text)) refl
  where
    go : (t : Bool) → ltb end (length text) ≡ t → end ≤ next_line text end
    go true e = rw e (omega arith)
    go false e = rw e h

module _ (text : List ℕ) where
  refused_inside : (p : Place) → Stands text p → p.start + p.len ≤ length text → Inside text (refused p)
  refused_inside p s h = record { misplaced = refl; place = h; place_stands = s }

  -- by the facts line, and by where the lines behind it begin
  found_inside : (word : Word) (facts : Place) (next : ℕ) → Stands text facts → facts.start + facts.len ≤ next → next ≤ length text → facts.len ≤ prefix_len in_line (drop facts.start text) → Inside text (found word facts (place_from text next 0))
  found_inside word facts next s h i l =
      record { facts = h; next = i; facts_stands = s; next_stands = from_stands text next 0 i; one_line = l }

  -- where the lines behind a line begin
  record Begins (l : Span) (behind : List Span) : Type 0 where
    further : l.start + l.len ≤ beginning text behind
    inside : beginning text behind ≤ length text

  begins : (at : ℕ) (l : Span) (behind : List Span) → Among text at l behind → Begins l behind
  begins at l behind a =
      let end = l.start + l.len in
      let e : beginning text behind ≡ next_line text end = ap (beginning text) a.rest ∙ beginning_from text (next_line text end) (next_inside text end) in
      record { further = omega (arith, end_next text end a.inside); inside = omega (arith, next_inside text end) }

  -- it claims no facts
  claim_inside : (word : Word) (l : Span) (behind : List Span) → Begins l behind → Inside text (found word text_start (place_from text (beginning text behind) 0))
  claim_inside word l behind b = found_inside word text_start (beginning text behind) (start_stands text) (omega arith) b.inside (omega arith)

  said_inside : (word : Word) (at : ℕ) (l : Span) (behind : List Span) → Among text at l behind → Inside text (reported text word behind)
  said_inside Answer at l [] a = refused_inside (end_of text) (from_stands text (length text) 0 (omega arith)) (omega arith)
  said_inside Answer at l (facts ∷ behind) a =
      let f = lines_behind text (next_line text (l.start + l.len)) [] facts behind (sym a.rest) in
      let b = begins (next_line text (l.start + l.len)) facts behind f in
      found_inside Answer (located text facts) (beginning text behind) (from_stands text facts.start facts.len (omega arith)) b.further b.inside (omega (arith, f.whole))
  said_inside Inconsistent at l behind a = claim_inside Inconsistent l behind (begins at l behind a)
  said_inside Unknown at l behind a = claim_inside Unknown l behind (begins at l behind a)

  pub reported_inside : {r : Result Report Refused} → Reported text r → Inside text r
  reported_inside (missing i) = refused_inside (end_of text) (from_stands text (length text) 0 (omega arith)) (omega arith)
  reported_inside (stray l behind f n) =
      let a = lines_behind text 0 f.before l behind f.split in
      refused_inside (located text l) (from_stands text l.start l.len (omega arith)) a.inside
  reported_inside (says l behind f w s) = said_inside w 0 l behind (lines_behind text 0 f.before l behind f.split)
