-- No fact of a list repeats an earlier one or differs from one only in sign: a test that computes, and 6 and 7 where it passes.
use mathlib.Core.Path.{◌≡◌, sym as inv, ◌∙◌}
use mathlib.Core.Bool.{Bool, true, not, ◌&&◌, ◌||◌, true≢false}
use mathlib.Core.Option.{some}
use mathlib.Core.List.{List, [], ◌∷◌}
use Prim.Native.Nat.{ℕ, zero, suc, ◌<◌}
use native.Mathlib.Omega.{arith}
use lib.ListN.{get_elem?}
use Rattle.meaning.specs.Sets.{every}
use Rattle.meaning.specs.Rules.{Fact}
use Rattle.meaning.specs.Values.{Value, values}
use Rattle.meaning.specs.Instances.{same_fact}
use Rattle.meaning.proofs.Booleans.{and_left, and_right, or_left, or_right, not_true, none_some, some_inj}
use Rattle.meaning.proofs.Sets.{at_in, every_in}
use Rattle.meaning.proofs.Facts.{same_fact_test}
use Rattle.meaning.proofs.Values.{value_laws}
use Rattle.promise.specs.Cases.{opposite, Clash, repeats, opposes}

-- b neither is a, nor differs from it only in sign
unfoldable pub unlike : Fact Value → Fact Value → Bool
unlike a b = not (same_fact values a b || same_fact values a (opposite b))

unfoldable pub apart : List (Fact Value) → Bool
apart [] = true
apart (a ∷ I) = every (unlike a) I && apart I

apart_at : (I : List (Fact Value)) (i j : ℕ) (a b : Fact Value) → apart I ≡ true → j < i → get_elem? I j ≡ some a → get_elem? I i ≡ some b → unlike a b ≡ true
unfolding apart
apart_at [] i j a b h l e f = absurd (none_some e)
apart_at (x ∷ I) zero j a b h l e f = absurd (omega arith)
apart_at (x ∷ I) (suc i) zero a b h l e f = rw (some_inj e) at (every_in (unlike x) I b (at_in I i b f) (and_left (every (unlike x) I) (apart I) h))
apart_at (x ∷ I) (suc i) (suc j) a b h l e f = apart_at I i j a b (and_right (every (unlike x) I) (apart I) h) (omega (arith, l)) e f

itself : (a : Fact Value) → same_fact values a a ≡ true
itself a = (same_fact_test values value_laws).self a

pub unclashing : (I : List (Fact Value)) → apart I ≡ true → (i n : ℕ) → ¬ Clash I i n
unfolding unlike
unclashing I h i n (repeats _ j a l e f) = true≢false (inv (or_left (same_fact values a a) (same_fact values a (opposite a)) (itself a)) ∙ not_true (same_fact values a a || same_fact values a (opposite a)) (apart_at I i j a a h l e f))
unclashing I h i n (opposes _ j a l e f) = true≢false (inv (or_right (same_fact values (opposite a) a) (same_fact values (opposite a) (opposite a)) (itself (opposite a))) ∙ not_true (same_fact values (opposite a) a || same_fact values (opposite a) (opposite a)) (apart_at I i j (opposite a) a h l e f))
