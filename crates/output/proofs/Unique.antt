-- Each output has at most one outcome, and so one answer.
use mathlib.Core.Path.{◌≡◌, refl, sym as inv, ap, ap₂, subst, ◌∙◌}
use mathlib.Core.Bool.{true}
use Prim.Native.Nat.{ℕ, ◌<◌}
use native.Mathlib.Omega.{arith}
use lib.ListN.{length}
use Rattle.std.specs.Prelude.{Result, Ok, Err}
use Rattle.texts.specs.declared.place.Place.{Place}
use Rattle.texts.specs.declared.refusal.Refused.{Refused}
use Rattle.texts.specs.declared.refusal.Refusal.{Refusal}
use Rattle.texts.specs.declared.refusal.Refusal.TheVariants.{Misplaced}
use Rattle.texts.specs.Parts.{part}
use Rattle.texts.specs.Sizes.{most_text}
use Rattle.meaning.specs.Rules.{Bytes}
use Rattle.grammar.specs.Sizes.{language}
use Rattle.grammar.proofs.Theorems.{one_reading}
use Rattle.syntax.specs.Text.{placed_from, end_of}
use Rattle.report.specs.declared.Report.{Report as ReportRead}
use Rattle.report.specs.declared.word.Word.{Word}
use Rattle.report.specs.declared.word.Word.TheVariants.{Answer, Inconsistent, Unknown}
use Rattle.report.proofs.Unique.{out_of_place_unique, reported_unique}
use Rattle.stages.specs.Parts.{output, in_text, start_of}
use Rattle.stages.specs.Stage.{Outcome, on, stop, Stage, Then, Refuse}
use Rattle.stages.proofs.Unique.{One, then_one, refuse_one, reads_one}
use Rattle.texts.proofs.Refusals.{number_decides}
use Rattle.output.specs.declared.OutputRead.{OutputRead}
use Rattle.output.specs.Output.{Report, facts, claim_none, claim_unknown, Opened, Opening, refuses, opens, on_line, Facts, Closing, closes, stray, Behind, OutputStage}
use Rattle.output.specs.Answers.{Gives, ReadsOutput}

-- an outcome gives one answer
given_once : (o : Outcome Report) (r s : Result OutputRead Refused) → Gives o r → Gives o s → r ≡ s
given_once (on x) (Ok r) (Ok s) g h = ap Ok (g ∙ inv h)
given_once (on x) (Ok r) (Err f) g h = absurd h
given_once (on x) (Err e) s g h = absurd g
given_once (stop n p) (Ok r) s g h = absurd g
given_once (stop n p) (Err e) (Ok s) g h = absurd h
given_once (stop n p) (Err e) (Err f) g h =
    let same = number_decides e.refusal f.refusal (inv g.0 ∙ h.0) in
    ap₂ (λ (r : Refusal) (q : Place). Err (record { refusal = r; place = q })) same (inv g.1 ∙ h.1)

abbrev misplaced : Place → Refused
misplaced place = record { refusal = Misplaced; place = place }

abbrev opened : Opened → ReportRead
opened o = record { word = o.word; facts = o.line; next = o.next }

module _ (text : Bytes) where
  pub opening_one : One (Opening text)
  opening_one x y (refuses p h) (refuses q k) = let e = reported_unique text h k in let z : ◌≡◌ {A = Refused} (misplaced p) (misplaced q) = cc in ap (λ (r : Refused). stop 2 (in_text output r.place)) z
  opening_one x y (refuses p h) (opens o k) = absurd (let e = reported_unique text h k in let z : ⊥ = cc in z)
  opening_one x y (opens o h) (refuses q k) = absurd (let e = reported_unique text h k in let z : ⊥ = cc in z)
  opening_one x y (opens o h) (opens p k) = let e = reported_unique text h k in let z : ◌≡◌ {A = ReportRead} (opened o) (opened p) = cc in ap (λ (r : ReportRead). on (record { word = r.word; line = r.facts; next = r.next })) z

  pub closing_one : {A : Type 0} (a : A) (at : ℕ) → One (Closing a text at)
  closing_one a at x y (closes e h) (closes f k) = refl
  closing_one a at x y (closes f h) (stray l k) = absurd (let e = out_of_place_unique text at h k in let z : ◌≡◌ {A = ℕ} 0 1 = cc in omega arith)
  closing_one a at x y (stray l h) (closes f k) = absurd (let e = out_of_place_unique text at h k in let z : ◌≡◌ {A = ℕ} 0 1 = cc in omega arith)
  closing_one a at x y (stray l h) (stray m k) = let e = out_of_place_unique text at h k in let z : l ≡ m = cc in ap (λ (p : Place). stop 2 (in_text output p)) z

  pub facts_one : (line : Place) → One (Facts text line)
  facts_one line = reads_one (language true) (λ p. in_text output (on_line text line p)) (end_of (part text line)) (placed_from true (part text line) 0) (one_reading true (end_of (part text line)) (placed_from true (part text line) 0))

  pub behind_one : (word : Word) (line : Place) (next : ℕ) → One (Behind text word line next)
  behind_one Answer line next = then_one (Facts text line) (λ fs. Closing (facts line fs) text next) (facts_one line) (λ fs. closing_one (facts line fs) next)
  behind_one Inconsistent line next = closing_one claim_none next
  behind_one Unknown line next = closing_one claim_unknown next

  abbrev behind : Opened → Stage Report
  behind o = Behind text o.word o.line o.next.start

  pub output_one : One (OutputStage text)
  output_one =
      then_one
      (Refuse 1 (start_of output) (most_text < length text))
      (λ u. Then (Opening text) behind)
      (refuse_one 1 (start_of output) (most_text < length text))
      (λ u. then_one (Opening text) behind opening_one (λ o. behind_one o.word o.line o.next.start))

  pub reads_output_unique : (r s : Result OutputRead Refused) → ReadsOutput text r → ReadsOutput text s → r ≡ s
  reads_output_unique r s g h = given_once g.outcome r s g.so (subst (λ (o : Outcome Report). Gives o s) (output_one h.outcome g.outcome h.stage g.stage) h.so)
