-- No token starts with a blank or a `%`, so no gap stands before one.
use Prim.Native.Nat.{ℕ, zero, suc}
use mathlib.Core.Path.{◌≡◌, refl, sym, ap, ◌∙◌}
use mathlib.Core.Bool.{Bool, true, false, ◌&&◌, ◌||◌, true≢false}
use mathlib.Core.List.{List, [], ◌∷◌}
use lib.Dec.{eqb}
use lib.ListN.{take}
use borrow.Author.Tests.{eqb-true}
use Rattle.lexis.specs.declared.class.Class.TheVariants.{Other}
use Rattle.lexis.specs.declared.kind.Kind.TheVariants.{Stray}
use Rattle.lexis.specs.Class.{class_of}
use Rattle.lexis.specs.Run.{is_blank}
use Rattle.tokens.specs.Gap.{starts_comment, gap}
use Rattle.lexis.specs.Strings.{quote}
use Rattle.lexis.specs.Kind.{is_stray}
use Rattle.lexis.specs.Spelling.{single_kind, pair_kind, kind_of}
use Rattle.meaning.proofs.Booleans.{never_true, both}
use Rattle.texts.proofs.Prefix.{prefix_none}
use Rattle.tokens.proofs.Gaps.{no_gap}

no_mark : (b : ℕ) → class_of b ≡ Other → eqb b quote ≡ false → single_kind b ≡ Stray → ((c : ℕ) → pair_kind b c ≡ Stray) → (rest : List ℕ) → kind_of (b ∷ rest) ≡ Stray
unfolding kind_of
no_mark b o q s p [] = rw (o, q) s
no_mark b o q s p (c ∷ []) = rw (o, q) (p c)
no_mark b o q s p (c ∷ d ∷ rest) = rw (o, q)

pub blank_stray : (program : Bool) (b : ℕ) (rest : List ℕ) → is_blank program b ≡ true → kind_of (b ∷ rest) ≡ Stray
unfolding is_blank class_of single_kind pair_kind
blank_stray program b rest = go (eqb b 32) refl (eqb b 9) refl (eqb b 10) refl
  where
    go : (s : Bool) → eqb b 32 ≡ s → (t : Bool) → eqb b 9 ≡ t → (n : Bool) → eqb b 10 ≡ n → (s || (t || (n && program))) ≡ true → kind_of (b ∷ rest) ≡ Stray
    go true e t f n g h = rw (eqb-true b 32 e) (no_mark 32 refl refl refl (λ c. refl) rest)
    go false e true f n g h = rw (eqb-true b 9 f) (no_mark 9 refl refl refl (λ c. refl) rest)
    go false e false f true g h = rw (eqb-true b 10 g) (no_mark 10 refl refl refl (λ c. refl) rest)
    go false e false f false g h = absurd (true≢false (sym h))

comment_stray : (b : ℕ) (rest : List ℕ) → starts_comment (b ∷ rest) ≡ true → (more : List ℕ) → kind_of (b ∷ more) ≡ Stray
unfolding starts_comment class_of single_kind pair_kind
comment_stray b rest e more = rw (eqb-true b 37 (both (eqb b 37) _ e).0) (no_mark 37 refl refl refl (λ c. refl) more)

pub token_no_gap : (program : Bool) (text : List ℕ) (len : ℕ) → is_stray (kind_of (take len text)) ≡ false → gap program text ≡ 0
unfolding kind_of
token_no_gap program [] zero h = absurd (true≢false h)
token_no_gap program [] (suc len) h = absurd (true≢false h)
token_no_gap program (b ∷ rest) zero h = absurd (true≢false h)
token_no_gap program (b ∷ rest) (suc len) h =
    no_gap program (b ∷ rest)
    (prefix_none (is_blank program) b rest (never_true (is_blank program b) (λ e. true≢false (sym (ap is_stray (blank_stray program b (take len rest) e)) ∙ h))))
    (never_true (program && starts_comment (b ∷ rest)) (λ e. true≢false (sym (ap is_stray (comment_stray b rest (both program (starts_comment (b ∷ rest)) e).1 (take len rest))) ∙ h)))
