-- Small outputs, with the report and the first line out of place behind it, each with its line and column, by computation.
use Prim.Native.Nat.{ℕ}
use mathlib.Core.Path.{◌≡◌, refl, subst}
use mathlib.Core.List.{List, [], ◌∷◌, ◌++◌, map, head-eq_of_cons-eq, tail-eq_of_cons-eq}
use Rattle.std.specs.Prelude.{Result, Ok, Err}
use Rattle.texts.specs.declared.place.Place.{Place}
use Rattle.texts.specs.declared.refusal.Refused.{Refused}
use Rattle.texts.specs.Place.{newlines, since, line_of, column_of, text_start}
use Rattle.report.specs.declared.word.Word.TheVariants.{Answer, Inconsistent, Unknown}
use Rattle.report.specs.declared.around.Found.{Found}
use Rattle.report.specs.declared.around.Found.TheVariants.{End, Line}
use Rattle.report.specs.declared.Report.{Report}
use Rattle.report.specs.Lines.{lines_at}
use Rattle.report.specs.Around.{OutOfPlace}
use Rattle.report.specs.Word.{spelling, starts_with}
use Rattle.report.specs.Report.{refused, found, Reported}
use Rattle.report.proofs.Answers.{out_of_place_of, report_of}

record Example : Type 0 where
  output : List ℕ
  report : Result Report Refused
  behind : Found

-- the bytes of `a.`
abbrev fact : List ℕ
fact = 97 ∷ 46 ∷ []

-- a byte and a length, and the byte's line and column
abbrev part : ℕ → ℕ → ℕ → ℕ → Place
part start len line column = record { start = start; len = len; line = line; column = column }

abbrev examples : List Example
examples =
    -- no report: an empty output, an empty line, a comment with no newline
    record { output = []; report = refused (part 0 0 1 1); behind = End (part 0 0 1 1) } ∷
    record { output = 10 ∷ []; report = refused (part 1 0 2 1); behind = End (part 1 0 2 1) } ∷
    record { output = 37 ∷ []; report = refused (part 1 0 1 2); behind = End (part 1 0 1 2) } ∷
    -- ANSWER with no second line, without its newline and with it
    record { output = spelling Answer; report = refused (part 6 0 1 7); behind = Line (part 0 6 1 1) } ∷
    record { output = spelling Answer ++ (10 ∷ []); report = refused (part 7 0 2 1); behind = Line (part 0 6 1 1) } ∷
    -- an empty facts line, and a blank one with no newline
    record { output = spelling Answer ++ (10 ∷ 10 ∷ []); report = found Answer (part 7 0 2 1) (part 8 0 3 1); behind = End (part 8 0 3 1) } ∷
    record { output = spelling Answer ++ (10 ∷ 32 ∷ []); report = found Answer (part 7 1 2 1) (part 8 0 2 2); behind = End (part 8 0 2 2) } ∷
    -- a comment, an empty line, `ANSWERS y`, the facts, a comment
    record {
      output = 37 ∷ 120 ∷ 10 ∷ 10 ∷ (spelling Answer ++ (83 ∷ 32 ∷ 121 ∷ 10 ∷ (fact ++ (10 ∷ 37 ∷ []))));
      report = found Answer (part 14 2 4 1) (part 17 0 5 1);
      behind = End (part 18 0 5 2);
    } ∷
    -- a report in column 1, and a line of a lone carriage return before a report
    record { output = 32 ∷ spelling Answer ++ (10 ∷ []); report = refused (part 0 7 1 1); behind = Line (part 0 7 1 1) } ∷
    record { output = 13 ∷ 10 ∷ spelling Unknown; report = refused (part 0 1 1 1); behind = Line (part 0 1 1 1) } ∷
    -- a fact behind UNKNOWN
    record { output = spelling Unknown ++ (10 ∷ (fact ++ (10 ∷ []))); report = found Unknown text_start (part 8 0 2 1); behind = Line (part 8 2 2 1) } ∷
    -- a second report
    record {
      output = spelling Answer ++ (10 ∷ (fact ++ (10 ∷ (spelling Answer ++ (10 ∷ [])))));
      report = found Answer (part 7 2 2 1) (part 10 0 3 1);
      behind = Line (part 10 6 3 1);
    } ∷
    -- an empty line and a line of blanks behind INCONSISTENT
    record { output = spelling Inconsistent ++ (10 ∷ 10 ∷ 32 ∷ 9 ∷ []); report = found Inconsistent text_start (part 13 0 2 1); behind = Line (part 14 2 3 1) } ∷
    []

-- where the lines behind the report begin; behind a refusal every line is looked at
abbrev next_of : Result Report Refused → ℕ
next_of (Ok r) = r.next.start
next_of (Err e) = 0

abbrev answered : Example → Example
answered x =
    let r = (report_of x.output).0 in
    record { output = x.output; report = r; behind = (out_of_place_of x.output (next_of r)).0 }

abbrev Right : List Example → Type 0
Right [] = Unit {0}
Right (x ∷ xs) = Reported x.output x.report × OutOfPlace x.output (next_of x.report) x.behind × Right xs

all_right : (xs : List Example) → map answered xs ≡ xs → Right xs
all_right [] e = tt
all_right (x ∷ xs) e =
    let h : answered x ≡ x = head-eq_of_cons-eq e in (
      subst (λ (y : Example). Reported x.output y.report) h (report_of x.output).1,
      subst (λ (y : Example). OutOfPlace x.output (next_of y.report) y.behind) h (out_of_place_of x.output (next_of (report_of x.output).0)).1,
      all_right xs (tail-eq_of_cons-eq e),
    )

pub right : Right examples
unfolding newlines since line_of column_of lines_at starts_with report_of out_of_place_of
right = all_right examples refl
