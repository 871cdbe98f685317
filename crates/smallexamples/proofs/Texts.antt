-- What two texts are taken as, by computation: the rules of a program, and the facts of a candidate. The outcome that the meaning has for
-- them is what the check answers to the texts.
use mathlib.Core.Path.{◌≡◌, refl, ap}
use mathlib.Core.Bool.{Bool, true, false, ◌&&◌, false≢true}
use mathlib.Core.Option.{Option, none, some}
use mathlib.Core.List.{List, [], ◌∷◌}
use Prim.Native.Nat.{ℕ, ◌≤◌, ◌<◌}
use native.Mathlib.Omega.{arith}
use lib.Dec.{leb, ltb}
use lib.ListN.{length}
use borrow.Author.Tests.{leb-true}
use Rattle.texts.specs.declared.place.Place.{Place}
use Rattle.texts.specs.Sizes.{most_text}
use Rattle.texts.specs.Parts.{part}
use Rattle.reading.specs.Reading.{Answer as Reading, tree, refused}
use Rattle.reading.specs.Machine.{answer}
use Rattle.meaning.specs.Rules.{Bytes, Fact, Rule, disjunctive}
use Rattle.meaning.specs.Values.{Value, values, in_range}
use Rattle.meaning.specs.Safety.{when}
use Rattle.meaning.specs.Matcher.{then}
use Rattle.meaning.specs.Outcomes.{MeansOutcome}
use Rattle.meaning.specs.Outcomes as meant
use Rattle.meaning.proofs.Booleans.{and_left, and_right, when_some, then_some, none_some, some_inj}
use Rattle.grammar.specs.Trees.{Program}
use Rattle.grammar.specs.Sizes.{language}
use Rattle.grammar.specs.Machine.{machine}
use Rattle.grammar.specs.Abstraction.{rules_for, facts_for}
use Rattle.grammar.proofs.Theorems.{answer_is_reading}
use Rattle.syntax.specs.Text.{placed_from, end_of}
use Rattle.syntax.specs.Programs.{ReadAs}
use Rattle.stages.specs.Parts.{output, start_of}
use Rattle.stages.specs.Stage.{Outcome, on, stop, stops, goes, given, passed, without, Reads}
use Rattle.std.specs.Prelude.{Result as ResultOf, Ok, Err}
use Rattle.texts.specs.declared.refusal.Refused.{Refused}
use Rattle.report.specs.declared.word.Word.{Word}
use Rattle.report.specs.declared.word.Word.TheVariants as words
use Rattle.report.specs.declared.around.Found.{Found}
use Rattle.report.specs.declared.around.Found.TheVariants.{End, Line}
use Rattle.report.specs.declared.Report.{Report}
use Rattle.report.specs.Around.{OutOfPlace}
use Rattle.report.specs.Report.{found, Reported, missing, stray, says}
use Rattle.report.proofs.Answers.{report_of, out_of_place_of}
use Rattle.program.specs.Stage.{ProgramStage}
use Rattle.program.proofs.Bound.{taken}
use Rattle.output.specs.Output.{facts, opens, closes, OutputStage}
use Rattle.promise.specs.Answer.{Answer, Result, result}
use Rattle.promise.specs.Answer as answers
use Rattle.promise.specs.Cases.{most_tested, TooManyTested}
use Rattle.promise.specs.Judged.{settles}
use Rattle.promise.specs.Answered.{rule_part, Candidate, Check, Answered}
use Rattle.promise.specs.Refusals.{Unclashing}
use Rattle.promise.proofs.Judged.{settled_is}
use Rattle.smallexamples.proofs.Unclashing.{apart, unclashing}
use Rattle.smallexamples.proofs.Bound.{all_bound, are_bound}

-- ---- a text within its size, and the tree that the grammar's machine reads in it

unfoldable pub fits : Bytes → Bool
fits text = leb (length text) most_text

unfoldable pub tree_of : {P A : Type 0} → Reading P A → Option A
tree_of (tree c) = some c
tree_of (refused n p) = none

tree_is : {P A : Type 0} (a : Reading P A) (c : A) → tree_of a ≡ some c → a ≡ tree c
unfolding tree_of
tree_is (tree d) c h = ap tree (some_inj h)
tree_is (refused n p) c h = absurd (none_some h)

unfoldable pub tree_in : (ground : Bool) → Bytes → Option (Program ground)
tree_in ground text = tree_of (answer (language ground) (machine ground) (end_of text) (placed_from ground text 0))

read_as : (ground : Bool) (text : Bytes) (c : Program ground) → tree_in ground text ≡ some c → ReadAs ground text (tree c)
unfolding tree_in
read_as ground text c h = rw (tree_is (answer (language ground) (machine ground) (end_of text) (placed_from ground text 0)) c h) at (answer_is_reading ground (end_of text) (placed_from ground text 0))

-- ---- a program

-- its rules, where it is within its size, is read, and every variable is bound
unfoldable pub program_rules : Bytes → Option (List (Rule Value))
program_rules text = when (fits text) (then (tree_in false text) (λ c. when (all_bound c) (some (rules_for c))))

pub record TakenAs (text : Bytes) (P : List (Rule Value)) : Type 0 where
  pub program : Program false
  pub stage : ProgramStage text (on program)
  pub rules : rules_for program ≡ P

pub program_taken : (text : Bytes) (P : List (Rule Value)) → program_rules text ≡ some P → TakenAs text P
unfolding program_rules fits
program_taken text P h =
    let size = when_some (fits text) _ P h in
    let reads = then_some (tree_in false text) _ P size.1 in
    let binds = when_some (all_bound reads.0) _ P reads.2 in
    record {
      program = reads.0;
      stage = taken text reads.0 (leb-true (length text) most_text size.0) (read_as false text reads.0 reads.1) (are_bound reads.0 binds.0);
      rules = some_inj binds.1;
    }

-- ---- an output

unfoldable pub is_answer : Word → Bool
is_answer words.Answer = true
is_answer words.Inconsistent = false
is_answer words.Unknown = false

-- ANSWER, with its facts line
unfoldable pub answer_of : ResultOf Report Refused → Option Report
answer_of (Ok r) = when (is_answer r.word) (some r)
answer_of (Err e) = none

answer_reported : (text : Bytes) (r : ResultOf Report Refused) → Reported text r → (a : Report) → answer_of r ≡ some a → Reported text (found words.Answer a.facts a.next)
unfolding answer_of is_answer when
answer_reported text r (missing i) a h = absurd (none_some h)
answer_reported text r (stray line behind f none_said) a h = absurd (none_some h)
answer_reported text r (says line [] f words.Answer s) a h = absurd (none_some h)
answer_reported text r (says line (l ∷ ls) f words.Answer s) a h = rw (← (some_inj h)) (says line (l ∷ ls) f words.Answer s)
answer_reported text r (says line behind f words.Inconsistent s) a h = absurd (none_some h)
answer_reported text r (says line behind f words.Unknown s) a h = absurd (none_some h)

unfoldable pub is_nothing : Found → Bool
is_nothing (End end) = true
is_nothing (Line line) = false

nothing_found : (text : Bytes) (at : ℕ) (f : Found) → OutOfPlace text at f → is_nothing f ≡ true → (end : Place) × OutOfPlace text at (End end)
unfolding is_nothing
nothing_found text at (End end) o h = (end, o)
nothing_found text at (Line line) o h = absurd (false≢true h)

-- the facts of a line, where it is read and no fact clashes with an earlier one
unfoldable pub line_facts : Bytes → Option (List (Fact Value))
line_facts line = then (tree_in true line) (λ fs. when (apart (facts_for fs)) (some (facts_for fs)))

-- the candidate, where the output is within its size and reports one, and no line behind it is out of place
unfoldable pub output_facts : Bytes → Option (List (Fact Value))
output_facts text =
    then (answer_of (report_of text).0) (λ r. when (fits text && is_nothing (out_of_place_of text r.next.start).0) (line_facts (part text r.facts)))

pub record ReportedAs (text : Bytes) (I : List (Fact Value)) : Type 0 where
  pub line : Place
  pub candidate : Program true
  pub stage : OutputStage text (on (facts line candidate))
  pub distinct : Unclashing candidate
  pub facts_are : facts_for candidate ≡ I

pub output_taken : (text : Bytes) (I : List (Fact Value)) → output_facts text ≡ some I → ReportedAs text I
unfolding output_facts line_facts fits
output_taken text I h =
    let answer = then_some (answer_of (report_of text).0) _ I h in
    let r = answer.0 in
    let line = r.facts in
    let o = out_of_place_of text r.next.start in
    let tests = when_some (fits text && is_nothing o.0) (line_facts (part text line)) I answer.2 in
    let size = leb-true (length text) most_text (and_left (fits text) (is_nothing o.0) tests.0) in
    let reads = then_some (tree_in true (part text line)) _ I tests.1 in
    let clear = when_some (apart (facts_for reads.0)) _ I reads.2 in
    let opening = answer_reported text (report_of text).0 (report_of text).1 r answer.1 in
    let closing = nothing_found text r.next.start o.0 o.1 (and_right (fits text) (is_nothing o.0) tests.0) in
    let fs = reads.0 in
    let x = on (facts line fs) in
    record {
      line = line;
      candidate = fs;
      stage = goes tt x (passed (λ k. omega (arith, k, size))) (goes (record { word = words.Answer; line = line; next = r.next }) x (opens _ opening) (goes fs x (Reads.read fs (read_as true (part text line) fs reads.1)) (closes closing.0 closing.1)));
      distinct = unclashing (facts_for fs) clear.0;
      facts_are = some_inj clear.1;
    }

-- ---- both

-- how many facts the candidate has, where some rule has several heads and they are too many to be tested
unfoldable pub facts_untested : Bytes → Bytes → Option ℕ
facts_untested the_program the_output = then (program_rules the_program) (λ P. then (output_facts the_output) (λ I. when (disjunctive P && ltb most_tested (length I)) (some (length I))))

module _ (the_program the_output : Bytes) (P : List (Rule Value)) (I : List (Fact Value)) (p : TakenAs the_program P) (c : ReportedAs the_output I) (places : List ℕ) where
  behind_both : (o : Outcome Result) → Candidate the_program the_output places p.program c.line c.candidate o → Check the_program the_output 10 places o
  behind_both o h = goes p.program o p.stage (goes (facts c.line c.candidate) o c.stage (goes tt o (passed (λ d. d refl)) h))

  enough : length I ≤ length places → ¬ (length places < length (facts_for c.candidate))
  enough room k = omega (arith, k, room, ap length c.facts_are)

  -- with room, and no more facts than are tested, what the outcome of the meaning says
  pub answered_with_room : (o : meant.Outcome) → MeansOutcome values in_range P I o → length I ≤ most_tested → length I ≤ length places → (a : Answer) (left : List ℕ) → record { answer = a; places = left } ≡ result places (settles (rule_part the_program) places o) → Answered the_program the_output 10 places a left
  answered_with_room o h tested room a left e =
      let settled = settled_is (rule_part the_program) (rules_for p.program) (facts_for c.candidate) places o (rw (p.rules, c.facts_are) h) in
      let few : ¬ TooManyTested (rules_for p.program) (facts_for c.candidate) = λ m. omega (arith, m.many, tested, ap length c.facts_are) in
      record {
        outcome = settles (rule_part the_program) places o;
        checked = behind_both _ (goes tt _ (without c.distinct) (goes tt _ (passed (enough room)) (goes tt _ (passed few) settled)));
        so = e;
      }

  -- with room, and too many facts beside several heads, 12
  pub answered_untested : disjunctive P ≡ true → most_tested < length I → length I ≤ length places → Answered the_program the_output 10 places (answers.refused 12 (start_of output)) places
  unfolding result
  answered_untested several many room =
      record {
        outcome = stop 12 (start_of output);
        checked = behind_both _ (goes tt _ (without c.distinct) (goes tt _ (passed (enough room)) (stops 12 (start_of output) (given (record { several = rw p.rules several; many = omega (arith, many, ap length c.facts_are) })))));
        so = refl;
      }

  -- without, 9
  pub answered_without_room : length places < length I → Answered the_program the_output 10 places (answers.refused 9 (start_of output)) places
  unfolding result
  answered_without_room few =
      record {
        outcome = stop 9 (start_of output);
        checked = behind_both _ (goes tt _ (without c.distinct) (stops 9 (start_of output) (given (omega (arith, few, ap length c.facts_are)))));
        so = refl;
      }
