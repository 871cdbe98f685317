-- Any two answers that the definitions allow for one output are equal.
use Prim.Native.Nat.{ℕ}
use mathlib.Core.Path.{◌≡◌, refl, sym, ap, subst, ◌∙◌}
use mathlib.Core.Bool.{true, false, cond, true≢false}
use mathlib.Core.List.{List, [], ◌∷◌, ◌++◌}
use lib.Dec.{eqb}
use lib.ListN.{get_or}
use borrow.Author.Tests.{eqb-true}
use Rattle.meaning.proofs.Booleans.{both}
use Rattle.std.specs.Prelude.{Result}
use Rattle.texts.specs.declared.place.Span.{Span}
use Rattle.texts.specs.declared.refusal.Refused.{Refused}
use Rattle.texts.specs.Parts.{bytes_in}
use Rattle.report.specs.declared.word.Word.{Word}
use Rattle.report.specs.declared.word.Word.TheVariants.{Answer, Inconsistent, Unknown}
use Rattle.report.specs.declared.around.Found.{Found}
use Rattle.report.specs.declared.around.Found.TheVariants.{Line}
use Rattle.report.specs.declared.Report.{Report}
use Rattle.report.specs.Lines.{located}
use Rattle.report.specs.Around.{is_idle, AllIdle, FirstOther, OutOfPlace, none, some}
use Rattle.report.specs.Word.{spelling, starts_with}
use Rattle.report.specs.Report.{refused, Says, reported, Reported, missing, stray, says}

-- ---- the first line that may not stand around the report

module _ (text : List ℕ) where
  clash : {A : Type 0} (l m : Span) → is_idle (bytes_in text l) ≡ true → is_idle (bytes_in text m) ≡ false → l ≡ m → A
  clash l m i o e = absurd (true≢false (sym i ∙ ap (λ (x : Span). is_idle (bytes_in text x)) e ∙ o))

  same_split : (bs cs : List Span) (l m : Span) (ls ms : List Span) → bs ++ (l ∷ ls) ≡ cs ++ (m ∷ ms)
      → AllIdle text bs → AllIdle text cs → is_idle (bytes_in text l) ≡ false → is_idle (bytes_in text m) ≡ false → (l ≡ m) × (ls ≡ ms)
  same_split [] [] l m ls ms e p q o u = (cc, cc)
  same_split [] (c ∷ cs) l m ls ms e p q o u = clash c l q.0 o (cc)
  same_split (b ∷ bs) [] l m ls ms e p q o u = clash b m p.0 u (cc)
  same_split (b ∷ bs) (c ∷ cs) l m ls ms e p q o u = same_split bs cs l m ls ms (cc) p.1 q.1 o u

  module _ {all : List Span} {l : Span} {ls : List Span} (f : FirstOther text all l ls) where
    pub first_unique : {m : Span} {ms : List Span} → FirstOther text all m ms → (l ≡ m) × (ls ≡ ms)
    first_unique {m} {ms} g = same_split f.before g.before l m ls ms (sym f.split ∙ g.split) f.idle g.idle f.other g.other

    pub first_not_idle : {A : Type 0} → AllIdle text all → A
    first_not_idle i = go f.before (subst (AllIdle text) f.split i)
      where
        go : {A : Type 0} (bs : List Span) → AllIdle text (bs ++ (l ∷ ls)) → A
        go [] h = clash l l h.0 f.other refl
        go (b ∷ bs) h = go bs h.1

  pub out_of_place_unique : (at : ℕ) {r q : Found} → OutOfPlace text at r → OutOfPlace text at q → r ≡ q
  out_of_place_unique at (none i) (none j) = refl
  out_of_place_unique at (none i) (some m ms g) = first_not_idle g i
  out_of_place_unique at (some l ls f) (none j) = first_not_idle f j
  out_of_place_unique at (some l ls f) (some m ms g) = ap (λ (x : Span). Line (located text x)) (first_unique f g).0

-- ---- a line starts with one word at most

initial : (w : ℕ) (word line : List ℕ) → starts_with (w ∷ word) line ≡ true → get_or line 0 0 ≡ w
unfolding starts_with
initial w word [] e = absurd (true≢false (sym e))
initial w word (b ∷ line) e = eqb-true b w (both (eqb b w) (starts_with word line) e).0

abbrev by_initial : ℕ → Word
by_initial b = cond (eqb b 65) Answer (cond (eqb b 73) Inconsistent Unknown)

word_by_initial : (word : Word) (line : List ℕ) → starts_with (spelling word) line ≡ true → by_initial (get_or line 0 0) ≡ word
word_by_initial Answer line e = rw (initial 65 _ line e)
word_by_initial Inconsistent line e = rw (initial 73 _ line e)
word_by_initial Unknown line e = rw (initial 85 _ line e)

module _ (text : List ℕ) where
  pub says_one : (l : Span) (v w : Word) → Says text l v → Says text l w → v ≡ w
  says_one l v w s t = sym (word_by_initial v (bytes_in text l) s) ∙ word_by_initial w (bytes_in text l) t

  -- ---- the report

  said : {l m : Span} (w : Word) → l ≡ m → Says text l w → Says text m w
  said w e s = subst (λ (x : Span). Says text x w) e s

  pub reported_unique : {r q : Result Report Refused} → Reported text r → Reported text q → r ≡ q
  reported_unique (missing i) (missing j) = refl
  reported_unique (missing i) (stray m ms g y) = first_not_idle text g i
  reported_unique (missing i) (says m ms g w t) = first_not_idle text g i
  reported_unique (stray l ls f x) (missing j) = first_not_idle text f j
  reported_unique (stray l ls f x) (stray m ms g y) = ap (λ (x : Span). refused (located text x)) (first_unique text f g).0
  reported_unique (stray l ls f x) (says m ms g w t) = absurd (x w (said w (first_unique text g f).0 t))
  reported_unique (says l ls f v s) (missing j) = first_not_idle text f j
  reported_unique (says l ls f v s) (stray m ms g y) = absurd (y v (said v (first_unique text f g).0 s))
  reported_unique (says l ls f v s) (says m ms g w t) =
      let u = first_unique text f g in
      ap (λ (x : Word). reported text x ls) (says_one m v w (said v u.0 s) t) ∙ ap (reported text w) u.1
