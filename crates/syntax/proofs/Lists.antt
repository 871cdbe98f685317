-- What several things read one after the other share.
use mathlib.Core.Path.{◌≡◌, refl, sym as inv, ◌∙◌}
use mathlib.Core.Bool.{Bool, true, false}
use mathlib.Core.List.{[], ◌∷◌, ◌++◌}
use Prim.Native.Nat.{ℕ, suc}
use native.Mathlib.Omega.{arith}
use lib.Dec.{leb, ltb}
use borrow.Author.Tests.{leb-true, leb-false, lt-ltb, le-ltb}
use Rattle.texts.specs.Place.{Stands}
use Rattle.meaning.specs.Rules.{Bytes}
use Rattle.grammar.specs.Tokens.{comma}
use Rattle.grammar.specs.Trees.{Sequence, ◌then◌, count}
use Rattle.grammar.specs.Spelling.{Spelling, mere, with_commas}
use Rattle.grammar.specs.Variables.{Variables as Names, meet_symbol, meet, met}
use Rattle.grammar.proofs.Variables.{met_append}
use Rattle.syntax.specs.declared.separator.Separator.{Separator}
use Rattle.syntax.specs.Text.{token_read}
use Rattle.syntax.proofs.Tokens.{past_here}
use Rattle.syntax.specs.Arguments.{Separated}

-- the next of n things is one too many where there are as many as there may be
pub too_many_next : (most n : ℕ) → ltb most (suc n) ≡ leb most n
too_many_next most n = go (leb most n) refl
  where
    go : (b : Bool) → leb most n ≡ b → ltb most (suc n) ≡ leb most n
    go true e = rw e (lt-ltb most (suc n) (omega (arith, leb-true most n e)))
    go false e = rw e (le-ltb most (suc n) (omega (arith, leb-false most n e)))

-- the variables met behind one thing more and its comma
pub met_then : {A : Type 0} (f : ℕ → A → Spelling) (vs : Names) (xs : Sequence A) (x : A) → met vs (with_commas f (xs then x)) ≡ met (met vs (with_commas f xs)) (f (suc (count xs)) x)
unfolding with_commas met meet meet_symbol
met_then f vs xs x = met_append vs (with_commas f xs ++ f (suc (count xs)) x) (mere comma ∷ []) ∙ met_append vs (with_commas f xs) (f (suc (count xs)) x)

-- behind a separator, none of which is stray
pub separator_stands : (ground : Bool) (text : Bytes) (at mark : ℕ) → (mark ≡ 21 → ⊥) → (s : Separator) → Separated ground text at mark s → Stands text s.behind
separator_stands ground text at mark nm s w = rw w.behind (past_here ground text at _ refl (λ q. absurd (go s.last refl q)))
  where
    go : (b : Bool) → s.last ≡ b → (token_read ground text at).kind ≡ 21 → ⊥
    go true e q = nm (inv (w.last e).1 ∙ q)
    go false e q = let k = w.comma e in omega arith
