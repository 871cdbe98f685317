-- Every output has an answer, found by the tests on its lines.
use Prim.Native.Nat.{ℕ}
use mathlib.Core.Path.{◌≡◌, refl, sym, ap, ◌∙◌}
use mathlib.Core.Bool.{Bool, true, false, true≢false}
use mathlib.Core.List.{List, [], ◌∷◌}
use Rattle.std.specs.Prelude.{Result}
use Rattle.texts.specs.declared.place.Span.{Span}
use Rattle.texts.specs.declared.refusal.Refused.{Refused}
use Rattle.texts.specs.Parts.{bytes_in}
use Rattle.report.specs.declared.word.Word.{Word}
use Rattle.report.specs.declared.word.Word.TheVariants.{Answer, Inconsistent, Unknown}
use Rattle.report.specs.declared.around.Found.{Found}
use Rattle.report.specs.declared.around.Found.TheVariants.{End, Line}
use Rattle.report.specs.declared.Report.{Report}
use Rattle.report.specs.Lines.{lines, lines_from, located, end_of}
use Rattle.report.specs.Around.{is_idle, AllIdle, FirstOther, OutOfPlace, none, some}
use Rattle.report.specs.Word.{spelling, starts_with}
use Rattle.report.specs.Report.{refused, Says, reported, Reported, missing, stray, says}

-- ---- the first line that may not stand around the report, or none

pub data Firsts (text : List ℕ) (ls : List Span) : Type 0 where
  all_idle : AllIdle text ls → Firsts text ls
  first : (l : Span) (behind : List Span) → FirstOther text ls l behind → Firsts text ls

unfoldable firsts_more : (text : List ℕ) (l : Span) (ls : List Span) (t : Bool) → is_idle (bytes_in text l) ≡ t → Firsts text ls → Firsts text (l ∷ ls)
firsts_more text l ls true e (all_idle a) = all_idle (e, a)
firsts_more text l ls true e (first m behind f) =
    first m behind (record { before = l ∷ f.before; split = ap (λ (ms : List Span). l ∷ ms) f.split; idle = (e, f.idle); other = f.other })
firsts_more text l ls false e x = first l ls (record { before = []; split = refl; idle = tt; other = e })

unfoldable firsts : (text : List ℕ) (ls : List Span) → Firsts text ls
firsts text [] = all_idle tt
firsts text (l ∷ ls) = firsts_more text l ls (is_idle (bytes_in text l)) refl (firsts text ls)

unfoldable place_of : (text : List ℕ) (at : ℕ) → Firsts text (lines_from text at) → (f : Found) × OutOfPlace text at f
place_of text at (all_idle a) = (End (end_of text), none a)
place_of text at (first l behind f) = (Line (located text l), some l behind f)

unfoldable pub out_of_place_of : (text : List ℕ) (at : ℕ) → (f : Found) × OutOfPlace text at f
unfolding firsts_more firsts place_of
out_of_place_of text at = place_of text at (firsts text (lines_from text at))

-- ---- the word that it starts with, or none

module _ (text : List ℕ) (l : Span) (behind : List Span) (f : FirstOther text (lines text) l behind) where
  abbrev test : Word → Bool
  test w = starts_with (spelling w) (bytes_in text l)

  silent : (w : Word) → test w ≡ false → Says text l w → ⊥
  silent w e s = true≢false (sym s ∙ e)

  pub none_said : test Answer ≡ false → test Inconsistent ≡ false → test Unknown ≡ false → (w : Word) → Says text l w → ⊥
  none_said a i u Answer = silent Answer a
  none_said a i u Inconsistent = silent Inconsistent i
  none_said a i u Unknown = silent Unknown u

  unfoldable by_word : (a i u : Bool) → test Answer ≡ a → test Inconsistent ≡ i → test Unknown ≡ u → (r : Result Report Refused) × Reported text r
  by_word true i u ea ei eu = (reported text Answer behind, says l behind f Answer ea)
  by_word false true u ea ei eu = (reported text Inconsistent behind, says l behind f Inconsistent ei)
  by_word false false true ea ei eu = (reported text Unknown behind, says l behind f Unknown eu)
  by_word false false false ea ei eu = (refused (located text l), stray l behind f (none_said ea ei eu))

unfoldable by_first : (text : List ℕ) → Firsts text (lines text) → (r : Result Report Refused) × Reported text r
by_first text (all_idle a) = (refused (end_of text), missing a)
by_first text (first l behind f) = by_word text l behind f (test text l behind f Answer) (test text l behind f Inconsistent) (test text l behind f Unknown) refl refl refl

unfoldable pub report_of : (text : List ℕ) → (r : Result Report Refused) × Reported text r
unfolding firsts_more firsts by_word by_first
report_of text = by_first text (firsts text (lines text))
