-- Laws of the bytes of a span of the two texts.
use mathlib.Core.Path.{◌≡◌, refl, ap, ◌∙◌}
use mathlib.Core.Bool.{Bool, true, false}
use mathlib.Core.List.{List, [], ◌∷◌}
use Prim.Native.Nat.{ℕ, zero, suc, ◌+◌, ◌-◌, ◌<◌, ◌≤◌}
use native.Mathlib.Omega.{arith}
use lib.Dec.{ltb}
use lib.ListN.{length, take, drop, length-take, length-drop, drop_of_length-le}
use lib.Seq.{take-nil}
use borrow.Author.Tests.{ltb-true, ltb-false, lt-ltb, le-ltb}
use Rattle.texts.specs.declared.place.Span.{Span}
use Rattle.texts.specs.Parts.{bytes_in}
use Rattle.texts.specs.Places.{span_from}
use Rattle.meaning.specs.Rules.{Bytes}
use Rattle.names.specs.Texts.{bytes_at}
use Rattle.names.specs.Table.{span_of, name_at}

take_own : (n : ℕ) (l : Bytes) → take (length (take n l)) l ≡ take n l
take_own zero l = refl
take_own (suc n) [] = refl
take_own (suc n) (x ∷ l) = ap (λ (r : Bytes). x ∷ r) (take_own n l)

module _ (program output : Bytes) where
  pub in_program : (span : Span) → span.start < length program → bytes_at program output span ≡ bytes_in program span
  unfolding bytes_at
  in_program span h = rw (lt-ltb _ _ h)

  pub in_output : (span : Span) → bytes_at program output (span_from (length program + span.start) span.len) ≡ bytes_in output span
  unfolding bytes_at
  in_output span =
      let past : length program ≤ length program + span.start = omega arith in
      let start : length program + span.start - length program ≡ span.start = omega arith in
      rw (le-ltb _ _ past, start)

  -- the bytes of the span that the table has for a number are its name
  pub name_read : (table : List ℕ) (i : ℕ) (span : Span) (bytes : Bytes) → span ≡ span_of table i → bytes ≡ bytes_at program output span → bytes ≡ name_at program output table i
  unfolding name_at
  name_read table i span bytes p b = b ∙ ap (bytes_at program output) p

  pub nothing_at : (start : ℕ) → bytes_at program output (span_from start 0) ≡ []
  unfolding bytes_at
  nothing_at start = go (ltb start (length program)) refl
    where
      go : (t : Bool) → ltb start (length program) ≡ t → bytes_at program output (span_from start 0) ≡ []
      go true e = rw e
      go false e = rw e

  -- a span that has bytes starts in a text
  pub starts_inside : (span : Span) → (bytes_at program output span ≡ [] → ⊥) → span.start < length program + length output
  unfolding bytes_at
  starts_inside span h = go (ltb span.start (length program)) refl
    where
      past : ltb span.start (length program) ≡ false → (t : Bool) → ltb (span.start - length program) (length output) ≡ t → span.start < length program + length output
      past e true q = let l = ltb-false span.start (length program) e in let k = ltb-true (span.start - length program) (length output) q in omega arith
      past e false q =
          let k : length output ≤ span.start - length program = ltb-false (span.start - length program) (length output) q in
          absurd (h (rw (e, drop_of_length-le output k, take-nil span.len)))

      go : (t : Bool) → ltb span.start (length program) ≡ t → span.start < length program + length output
      go true e = let k = ltb-true span.start (length program) e in omega arith
      go false e = past e (ltb (span.start - length program) (length output)) refl

  pub no_longer : (span : Span) → length (bytes_at program output span) ≤ length program + length output
  unfolding bytes_at
  no_longer span = go (ltb span.start (length program)) refl
    where
      go : (t : Bool) → ltb span.start (length program) ≡ t → length (bytes_at program output span) ≤ length program + length output
      go true e = rw e (simp (length-take, length-drop) (omega arith))
      go false e = rw e (simp (length-take, length-drop) (omega arith))

  -- as many bytes as a span has are those bytes
  pub own_length : (span : Span) → bytes_at program output (span_from span.start (length (bytes_at program output span))) ≡ bytes_at program output span
  unfolding bytes_at
  own_length span = go (ltb span.start (length program)) refl
    where
      go : (t : Bool) → ltb span.start (length program) ≡ t → bytes_at program output (span_from span.start (length (bytes_at program output span))) ≡ bytes_at program output span
      go true e = rw e (take_own span.len (drop span.start program))
      go false e = rw e (take_own span.len (drop (span.start - length program) output))
