-- What a caller makes of an output that has been read.
use mathlib.Core.Path.{◌≡◌, refl, ap, subst}
use mathlib.Core.Bool.{true}
use Prim.Native.Nat.{ℕ, ◌+◌, ◌≤◌, ◌<◌}
use native.Mathlib.Omega.{arith}
use lib.ListN.{length, length-take, length-drop}
use Rattle.texts.proofs.Counting.{start_stands, from_stands}
use Rattle.texts.specs.Place.{Stands}
use Rattle.output.proofs.Stages.{line_straight}
use Rattle.std.specs.Prelude.{Ok, Err}
use Rattle.texts.specs.declared.place.Place.{Place}
use Rattle.texts.specs.declared.refusal.Refused.{Refused}
use Rattle.texts.specs.Refusal.{number_of}
use Rattle.texts.specs.Parts.{part}
use Rattle.texts.specs.Sizes.{most_text}
use Rattle.reading.specs.Reading.{tree}
use Rattle.meaning.specs.Rules.{Bytes}
use Rattle.grammar.specs.Trees.{count, Program}
use Rattle.grammar.specs.Sizes.{most_rules}
use Rattle.syntax.specs.Programs.{ReadAs}
use Rattle.syntax.specs.Text.{placed_from, end_of}
use Rattle.rule_places.proofs.Inside.{refused_inside, refused_number}
use Rattle.rule_places.proofs.Few.{read_few}
use Rattle.report.specs.declared.word.Word.{Word}
use Rattle.report.specs.declared.word.Word.TheVariants.{Answer, Inconsistent, Unknown}
use Rattle.report.specs.declared.around.Found.TheVariants.{Line}
use Rattle.report.specs.Around.{OutOfPlace}
use Rattle.report.proofs.Inside.{reported_inside}
use Rattle.report.proofs.Reporting.{first_line}
use Rattle.stages.specs.Parts.{output, Part, in_text, start_of}
use Rattle.stages.specs.Stage.{Outcome, on, stop, Refuse, stops, goes, given, passed, read, fault}
use Rattle.output.specs.declared.OutputRead.{OutputRead}
use Rattle.output.specs.Output.{Report, facts, claim_none, claim_unknown, Opened, Opening, refuses, opens, Facts, Closing, closes, stray, Behind, OutputStage, OneLine}
use Rattle.output.specs.Answers.{Gives, ReadsOutput}
use Rattle.output.specs.Tables.{OutputTables, FactsHeld, FillsOutput}

-- ---- a refusal: its number is one, and its part is a part of the output, with the line and column of its start

pub record Refusal (text : Bytes) (n : ℕ) (p : Part) : Type 0 where
  pub number : 1 ≤ n
  pub within : p ≡ in_text output p.place
  pub inside : p.place.start + p.place.len ≤ length text
  pub stands : Stands text p.place

module _ (text : Bytes) where
  closing_refusal : {A : Type 0} (a : A) (at : ℕ) {n : ℕ} {p : Part} → Closing a text at (stop n p) → Refusal text n p
  closing_refusal a at (stray line o) = record { number = omega arith; within = refl; inside = (first_line text at o line refl).inside; stands = (first_line text at o line refl).line.stands }

  module _ (line : Place) (inside : line.start + line.len ≤ length text) where
    line_length : length (part text line) ≡ line.len
    line_length = simp (length-take, length-drop) (omega arith)

    facts_refusal : {n : ℕ} {p : Part} → Facts text line (stop n p) → Refusal text n p
    facts_refusal (fault n q h) =
        record {
          number = refused_number true (part text line) n q h;
          within = refl;
          inside = omega (arith, refused_inside true (part text line) n q h, line_length);
          stands = from_stands text (line.start + q.start) q.len (omega (arith, refused_inside true (part text line) n q h, line_length));
        }

    behind_refusal : (word : Word) (next : ℕ) {n : ℕ} {p : Part} → Behind text word line next (stop n p) → Refusal text n p
    behind_refusal Answer next (stops n p h) = facts_refusal h
    behind_refusal Answer next (goes fs o h k) = closing_refusal (facts line fs) next k
    behind_refusal Inconsistent next h = closing_refusal claim_none next h
    behind_refusal Unknown next h = closing_refusal claim_unknown next h

  opening_refusal : {n : ℕ} {p : Part} → Opening text (stop n p) → Refusal text n p
  opening_refusal (refuses place h) = record { number = omega arith; within = refl; inside = (reported_inside text h).place; stands = (reported_inside text h).place_stands }

  size_refusal : {n : ℕ} {p : Part} → Refuse 1 (start_of output) (most_text < length text) (stop n p) → Refusal text n p
  size_refusal (given h) = record { number = omega arith; within = refl; inside = omega arith; stands = start_stands text }

  facts_inside : {o : Opened} → Opening text (on o) → o.line.start + o.line.len ≤ length text
  facts_inside (opens o h) = let i = reported_inside text h in omega arith

  facts_straight : {o : Opened} → Opening text (on o) → OneLine text o.line
  facts_straight (opens o h) = line_straight text _ h

  pub refusal : {n : ℕ} {p : Part} → OutputStage text (stop n p) → Refusal text n p
  refusal (stops n p h) = size_refusal h
  refusal (goes u x s (stops n p h)) = opening_refusal h
  refusal (goes u x s (goes o y h b)) = behind_refusal o.line (facts_inside h) o.word o.next.start b

  -- a fault of the facts line lies left of each line behind the report, so the first refusal of the stages is the leftmost
  pub facts_before_behind : {o : Opened} → Opening text (on o) → {n : ℕ} {p : Part} → Facts text o.line (stop n p) → (l : Place) → OutOfPlace text o.next.start (Line l) → p.place.start + p.place.len ≤ l.start
  facts_before_behind (opens o h) (fault n q r) l k =
      let i = reported_inside text h in
      let e = line_length o.line (facts_inside (opens o h)) in
      omega (arith, refused_inside true (part text o.line) n q r, (first_line text o.next.start k l refl).further, i.facts)

-- ---- ANSWER: the facts line lies inside the output and is read as the facts, which are not too many

pub record HandedOn (text : Bytes) (line : Place) (fs : Program true) : Type 0 where
  pub size : length text ≤ most_text
  pub inside : line.start + line.len ≤ length text
  pub straight : OneLine text line
  pub read : ReadAs true (part text line) (tree fs)
  pub few : count fs ≤ most_rules true

module _ (text : Bytes) where
  facts_on : (line : Place) {fs : Program true} → Facts text line (on fs) → ReadAs true (part text line) (tree fs)
  facts_on line (read fs h) = h

  behind_on : (word : Word) (l : Place) (next : ℕ) {line : Place} {fs : Program true} → Behind text word l next (on (facts line fs)) → (l ≡ line) × ReadAs true (part text line) (tree fs)
  behind_on Answer l next (goes fs x h (closes end k)) = (refl, facts_on l h)
  behind_on Inconsistent l next {line = line} {fs = fs} x' = elim x' [ ]
  behind_on Unknown l next {line = line} {fs = fs} x'' = elim x'' [ ]

  pub handed_on : {line : Place} {fs : Program true} → OutputStage text (on (facts line fs)) → HandedOn text line fs
  handed_on {line} {fs} (goes u x (passed s) (goes o y h b)) =
      let k = behind_on o.word o.line o.next.start b in
      let i = facts_inside text h in
      record { size = omega arith; inside = rw k.0 at i; straight = subst (OneLine text) k.0 (facts_straight text h); read = k.1; few = read_few true (end_of (part text line)) (placed_from true (part text line) 0) k.1 }

-- ---- the fields of an answer, and the outcome

-- of what is no refusal the word says what is handed on
abbrev pub Says : Bytes → ℕ → Word → Type 0
Says text n Answer = (line : Place) × (fs : Program true) × (count fs ≡ n) × OutputStage text (on (facts line fs))
Says text n Inconsistent = OutputStage text (on claim_none)
Says text n Unknown = OutputStage text (on claim_unknown)

module _ (text : Bytes) where
  pub output_refused : (e : Refused) → ReadsOutput text (Err e) → OutputStage text (stop (number_of e.refusal) (in_text output e.place))
  output_refused e g = go g.outcome g.stage g.so
    where
      go : (o : Outcome Report) → OutputStage text o → Gives o (Err e) → OutputStage text (stop (number_of e.refusal) (in_text output e.place))
      go (on x) s h = absurd h
      go (stop n p) s h = rw (← h.0, ← h.1, ← (refusal text s).within) s

  pub output_says : (r : OutputRead) → ReadsOutput text (Ok r) → Says text r.count r.word
  output_says r g = go g.outcome g.stage g.so
    where
      go : (o : Outcome Report) → OutputStage text o → Gives o (Ok r) → Says text r.count r.word
      go (on (facts line fs)) s e = rw e (line, fs, refl, s)
      go (on claim_none) s e = rw e s
      go (on claim_unknown) s e = rw e s
      go (stop n p) s h = absurd h

-- ANSWER: the facts of its line, which the tables hold, and where that line stands
pub record Answering (program text : Bytes) (place : Place) (n : ℕ) (t u : OutputTables) : Type 0 where
  pub line : Place
  pub tree_of : Program true
  pub stage : OutputStage text (on (facts line tree_of))
  pub line_is : place ≡ line
  pub held : FactsHeld program text line tree_of t n u

pub output_answers : (program text : Bytes) (t : OutputTables) (r : OutputRead) (u : OutputTables) → FillsOutput program text t (Ok r) u → r.word ≡ Answer → Answering program text r.line r.count t u
output_answers program text t r u g w = go g.given.outcome refl g.given.so
  where
    go : (o : Outcome Report) → g.given.outcome ≡ o → Gives o (Ok r) → Answering program text r.line r.count t u
    go (on (facts line fs)) e q = record { line = line; tree_of = fs; stage = rw e at g.given.stage; line_is = ap (λ (x : OutputRead). x.line) q; held = rw q (g.filled line fs e) }
    go (on claim_none) e q = absurd (let q : r.word ≡ Inconsistent = ap (λ (x : OutputRead). x.word) q in let y : ◌≡◌ {A = ℕ} 0 1 = cc in omega arith)
    go (on claim_unknown) e q = absurd (let q : r.word ≡ Unknown = ap (λ (x : OutputRead). x.word) q in let y : ◌≡◌ {A = ℕ} 0 1 = cc in omega arith)
    go (stop n p) e h = absurd h
