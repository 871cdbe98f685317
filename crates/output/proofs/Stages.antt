-- What the functions that read an output return, by the tests that led there.
use mathlib.Core.Path.{◌≡◌, refl, sym as inv, ap, subst}
use mathlib.Core.Bool.{true}
use Prim.Native.Nat.{ℕ, ◌+◌, ◌≤◌, ◌<◌, ◌-◌}
use native.Mathlib.Omega.{arith}
use lib.ListN.{length, length-take, length-drop}
use Rattle.std.specs.Prelude.{Result, Ok, Err, IfErr}
use Rattle.std.specs.Result.{result_unwrap_or}
use Rattle.texts.specs.declared.refusal.Refused.{Refused}
use Rattle.texts.specs.declared.refusal.Refusal.{Refusal}
use Rattle.texts.specs.declared.refusal.Refusal.TheVariants.{LongText, Misplaced}
use Rattle.texts.specs.Refusal.{number_of}
use Rattle.texts.proofs.Counting.{as_from, countable, along_stands}
use Rattle.texts.specs.declared.place.Place.{Place}
use Rattle.texts.specs.Parts.{part}
use Rattle.meaning.specs.Rules.{Bytes}
use Rattle.grammar.specs.Trees.{count, Program}
use Rattle.texts.specs.Place.{text_start, along, Countable}
use Rattle.texts.specs.Sizes.{most_text}
use Rattle.rule_places.proofs.Inside.{refused_inside}
use Rattle.report.specs.declared.Report.{Report as ReportRead}
use Rattle.report.specs.declared.word.Word.{Word}
use Rattle.report.specs.declared.word.Word.TheVariants.{Answer}
use Rattle.report.specs.Report.{refused, Reported}
use Rattle.report.proofs.Inside.{reported_inside}
use Rattle.stages.specs.Parts.{output, Part, in_text, start_of}
use Rattle.stages.specs.Stage.{on, stop, Stage, stops, goes, given, passed, read, fault}
use Rattle.stages.proofs.Unique.{on_stop, on_inj}
use Rattle.rows.proofs.Growth.{room_less}
use Rattle.factline.specs.Lines.{Fillable, Listed, LineHeld, LineRefused, FillsRows}
use Rattle.output.specs.declared.OutputRead.{OutputRead}
use Rattle.output.specs.Output.{Report, facts, claim_none, claim_unknown, Opened, Opening, opens, on_line, Closing, Behind, OneLine}
use Rattle.output.specs.Answers.{reported, report_fields, line_fields, Closes, counted_on}
use Rattle.output.specs.Tables.{OutputTables, Lent, FactsHeld, FillsStage, FillsOutput}

-- ---- a report

-- one that claims only
none_claims : (line : Place) (fs : Program true) → claim_none ≡ facts line fs → ⊥
none_claims line fs e = let z : ◌≡◌ {A = ℕ} 0 1 = cc in omega arith

unknown_claims : (line : Place) (fs : Program true) → claim_unknown ≡ facts line fs → ⊥
unknown_claims line fs e = let z : ◌≡◌ {A = ℕ} 0 1 = cc in omega arith

-- a place counted on from the line's is that of the output
pub counted_on_line : (text : Bytes) (line : Place) → OneLine text line → (p : Place) → p.start ≤ line.len → counted_on line p ≡ on_line text line p
counted_on_line text line straight p h =
    let byte = line.start + p.start in
    let e : byte - line.start ≡ p.start = omega arith in
    as_from text (along line byte) (along_stands text line straight.stands byte (omega arith) (rw e (omega (arith, straight.unbroken)))) p.len

module _ (program text : Bytes) (t u : OutputTables) where
  -- a refusal fills nothing
  refusal_fills : {S : Stage Report} (n : ℕ) (p : Part) → S (stop n p) → (e : Refused) → n ≡ number_of e.refusal → p.place ≡ e.place → FillsStage S program text t (Err e) u
  refusal_fills n p h e q w = record { given = record { outcome = stop n p; stage = h; so = (q, w) }; filled = λ line fs y. absurd (on_stop (inv y)) }

  -- what has been said is a report, and where it has facts the tables hold them
  module _ (at : ℕ) (said : OutputRead) (x : Report) (e : said ≡ report_fields x) (held : (line : Place) (fs : Program true) → x ≡ facts line fs → FactsHeld program text line fs t (count fs) u) (r : Result OutputRead Refused) where
    closing_fills : Closes text at (Ok said) r → FillsStage (Closing x text at) program text t r u
    closing_fills (Closes.refuses f q k) = absurd (let z : ⊥ = cc in z)
    closing_fills (Closes.closes end o q) = rw q (record { given = record { outcome = on x; stage = Closing.closes end o; so = e }; filled = λ line fs y. held line fs (on_inj y) })
    closing_fills (Closes.stray a q line o k) = rw k (refusal_fills 2 (in_text output line) (Closing.stray line o) (record { refusal = Misplaced; place = line }) refl refl)

  pub closing_none : (at : ℕ) (said : OutputRead) → said ≡ report_fields claim_none → (r : Result OutputRead Refused) → Closes text at (Ok said) r → FillsStage (Closing claim_none text at) program text t r u
  closing_none at said e r = closing_fills at said claim_none e (λ line fs y. absurd (none_claims line fs y)) r

  pub closing_unknown : (at : ℕ) (said : OutputRead) → said ≡ report_fields claim_unknown → (r : Result OutputRead Refused) → Closes text at (Ok said) r → FillsStage (Closing claim_unknown text at) program text t r u
  closing_unknown at said e r = closing_fills at said claim_unknown e (λ line fs y. absurd (unknown_claims line fs y)) r

  -- ---- behind ANSWER

  module _ (line : Place) (straight : OneLine text line) (ask : Fillable program text line t.names t.facts t.starts t.lengths) where
    abbrev LineRead : Result ℕ Refused → Type 0
    LineRead f = FillsRows program text line t.names t.facts t.starts t.lengths f u.names u.facts u.starts u.lengths

    -- a fault on the line lies on it
    on_the_line : (e : Refused) → LineRefused text line e → e.place.start ≤ line.len
    on_the_line e g =
        let l : length (part text line) ≤ line.len = simp (length-take, length-drop) (omega arith) in
        omega (arith, refused_inside true (part text line) (number_of e.refusal) e.place g.reads)

    pub line_countable : (f : Result ℕ Refused) → LineRead f → IfErr f (λ e. Countable line (line.start + e.place.start))
    line_countable (Ok n) g = tt
    line_countable (Err e) g = let l = on_the_line e g in let o = ask.room.in_order.output_size in let i = ask.inside in countable text line straight.stands (line.start + e.place.start) (omega arith) (omega arith) (omega arith)

    -- a refusal of the line stays, whatever stands behind it
    line_refused : (next : ℕ) (e : Refused) → LineRefused text line e → (r : Result OutputRead Refused) → Closes text next (line_fields line (Err e)) r → FillsStage (Behind text Answer line next) program text t r u
    line_refused next e g r k =
        rw (stays k)
        (refusal_fills (number_of e.refusal) (in_text output (on_line text line e.place)) (stops _ _ (fault (number_of e.refusal) e.place g.reads)) (record { refusal = e.refusal; place = counted_on line e.place }) refl (inv (counted_on_line text line straight e.place (on_the_line e g))))
      where
        stays : Closes text next (line_fields line (Err e)) r → r ≡ line_fields line (Err e)
        stays (Closes.refuses f q w) = w
        stays (Closes.closes end o w) = w
        stays (Closes.stray a q l o w) = absurd (let z : ⊥ = cc in z)

    line_held : (n : ℕ) → LineHeld program text line t.names t.facts t.predicates t.starts t.lengths n u.names u.facts u.predicates u.starts u.lengths → (next : ℕ) (r : Result OutputRead Refused) → Closes text next (Ok (reported Answer line n)) r → FillsStage (Behind text Answer line next) program text t r u
    line_held n w next r k = record { given = record { outcome = d.given.outcome; stage = goes w.trees d.given.outcome (read w.trees w.reads) d.given.stage; so = d.given.so }; filled = d.filled }
      where
        held : (l : Place) (gs : Program true) → facts line w.trees ≡ facts l gs → FactsHeld program text l gs t (count gs) u
        held l gs y = let a : line ≡ l = cc in let b : w.trees ≡ gs = cc in rw (← a, ← b, ← w.filled.size) w.filled

        d : FillsStage (Closing (facts line w.trees) text next) program text t r u
        d = closing_fills next (reported Answer line n) (facts line w.trees) (ap (reported Answer line) w.filled.size) held r k

    pub answer_closed : (f : Result ℕ Refused) → LineRead f → Listed u.facts (result_unwrap_or f 0) t.predicates u.predicates → (next : ℕ) (said : Result OutputRead Refused) → said ≡ line_fields line f → (r : Result OutputRead Refused) → Closes text next said r → FillsStage (Behind text Answer line next) program text t r u
    answer_closed (Ok n) g l next said q r k = line_held n (g.held _ _ l) next r (subst (λ (s : Result OutputRead Refused). Closes text next s r) q k)
    answer_closed (Err e) g l next said q r k = line_refused next e g r (subst (λ (s : Result OutputRead Refused). Closes text next s r) q k)

-- ---- the whole

-- the facts line lies inside the output, which is within its size
pub line_fillable : (program text : Bytes) (t : OutputTables) → (most_text < length text → ⊥) → (p : ReportRead) → Reported text (Ok p) → Lent program text t → Fillable program text p.facts t.names t.facts t.starts t.lengths
line_fillable program text t size p g lent =
    let i = reported_inside text g in
    let within : length text ≤ most_text = omega arith in
    record { inside = omega arith; room = room_less program text p.facts.len (lent.room within) (omega arith); facts_long = lent.facts_long; starts_long = lent.starts_long; lengths_long = lent.lengths_long }

-- .. and has no newline
pub line_straight : (text : Bytes) (p : ReportRead) → Reported text (Ok p) → OneLine text p.facts
line_straight text p g = let i = reported_inside text g in record { stands = i.facts_stands; unbroken = i.one_line }

module _ (program text : Bytes) (t u : OutputTables) where
  pub too_long : most_text < length text → FillsOutput program text t (Err (record { refusal = LongText; place = text_start })) u
  too_long h = refusal_fills program text t u 1 (start_of output) (stops 1 (start_of output) (given h)) (record { refusal = LongText; place = text_start }) refl refl

  module _ (size : most_text < length text → ⊥) where
    pub opening_refused : (e : Refused) → Reported text (Err e) → FillsOutput program text t (Err e) u
    opening_refused e g =
        let part = in_text output e.place in
        let two : e.refusal ≡ Misplaced = (reported_inside text g).misplaced in
        let h : Reported text (refused e.place) = subst (λ (x : Refusal). Reported text (Err (record { refusal = x; place = e.place }))) two g in
        refusal_fills program text t u 2 part (goes tt (stop 2 part) (passed size) (stops 2 part (Opening.refuses e.place h))) e (ap number_of (inv two)) refl

    pub goes_behind : (p : ReportRead) → Reported text (Ok p) → (word : Word) → p.word ≡ word → (r : Result OutputRead Refused) → FillsStage (Behind text word p.facts p.next.start) program text t r u → FillsOutput program text t r u
    goes_behind p g word w r d =
        let o : Opened = record { word = p.word; line = p.facts; next = p.next } in
        let b : FillsStage (Behind text p.word p.facts p.next.start) program text t r u = subst (λ (v : Word). FillsStage (Behind text v p.facts p.next.start) program text t r u) (inv w) d in
        record {
          given = record {
            outcome = b.given.outcome;
            stage = goes tt b.given.outcome (passed size) (goes o b.given.outcome (opens o g) b.given.stage);
            so = b.given.so;
          };
          filled = b.filled;
        }
