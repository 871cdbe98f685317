-- Laws of `starts_with`: which test of slices it is, and which of names, and what it says of the bytes.
use Prim.Native.Nat.{ℕ}
use mathlib.Core.Path.{◌≡◌, refl, sym, ap, ap₂}
use mathlib.Core.Bool.{true, ◌&&◌, true≢false}
use mathlib.Core.List.{List, [], ◌∷◌, ◌++◌}
use lib.Dec.{eqb}
use lib.ListN.{length, take, drop}
use borrow.Author.Tests.{eqb-true, eq-eqb}
use Rattle.std.specs.List.{starts_with as slice_starts}
use Rattle.meaning.specs.Values.{same_bytes}
use Rattle.meaning.proofs.Booleans.{both, both_ways}
use Rattle.report.specs.Word.{starts_with}

turned : (a b : ℕ) → eqb a b ≡ eqb b a
turned a b = both_ways (eqb a b) (eqb b a) (λ e. eq-eqb b a (sym (eqb-true a b e))) (λ e. eq-eqb a b (sym (eqb-true b a e)))

pub slice_starts_same : (word bytes : List ℕ) → slice_starts eqb bytes word ≡ starts_with word bytes
unfolding starts_with
slice_starts_same [] bytes = refl
slice_starts_same (w ∷ word) [] = refl
slice_starts_same (w ∷ word) (b ∷ bytes) = ap₂ (λ s t. s && t) (turned w b) (slice_starts_same word bytes)

-- the first bytes, as many as the word has, are the word's
pub starts_same : (word bytes : List ℕ) → same_bytes (take (length word) bytes) word ≡ starts_with word bytes
unfolding starts_with same_bytes
starts_same [] bytes = refl
starts_same (w ∷ word) [] = refl
starts_same (w ∷ word) (b ∷ bytes) = ap (λ t. eqb b w && t) (starts_same word bytes)

-- the bytes are the word and anything behind it
pub starts_with_lem : (word bytes : List ℕ) → starts_with word bytes ≡ true → bytes ≡ word ++ drop (length word) bytes
unfolding starts_with
starts_with_lem [] bytes e = refl
starts_with_lem (w ∷ word) [] e = absurd (true≢false (sym e))
starts_with_lem (w ∷ word) (b ∷ bytes) e =
    let h = both (eqb b w) (starts_with word bytes) e in
    ap₂ (λ x xs. x ∷ xs) (eqb-true b w h.0) (starts_with_lem word bytes h.1)
