-- Laws of the places in a table.
use mathlib.Core.Path.{◌≡◌, refl, ap, sym as inv, ◌∙◌}
use mathlib.Core.Bool.{Bool, true, false}
use mathlib.Core.List.{List, [], ◌∷◌, ◌++◌}
use Prim.Native.Nat.{ℕ, zero, suc, ◌+◌, ◌*◌, ◌≤◌, ◌<◌}
use native.Mathlib.Omega.{arith}
use native.Mathlib.Numerals.{add-one}
use lib.Dec.{ltb}
use lib.ListN.{length, get_or, set, length-append, length-set, get_or-append}
use lib.Seq.{get_or-set_same, get_or-set_other, get_or-append_seam}
use borrow.Author.Tests.{ltb-true, ltb-false}
use Rattle.texts.specs.declared.place.Place.{Place}
use Rattle.texts.specs.Sizes.{most_text}
use Rattle.texts.specs.Place.{Stands, Countable}
use Rattle.texts.specs.Places.{place_stride, place_in, places_in, with_place, Storable}
use Rattle.texts.proofs.Counting.{few_lines, few_columns}

pub places_length : (table : List ℕ) (n : ℕ) → length (places_in table n) ≡ n
unfolding places_in
places_length table zero = refl
places_length table (suc n) = omega (arith, length-append (places_in table n) (place_in table n ∷ []), places_length table n)

-- the four numbers of a place, stored from `at` on
module _ (table : List ℕ) (at : ℕ) (p : Place) where
  abbrev start : List ℕ
  start = set table at p.start

  abbrev len : List ℕ
  len = set start (at + 1) p.len

  abbrev line : List ℕ
  line = set len (at + 2) p.line

  abbrev stored : List ℕ
  stored = set line (at + 3) p.column

  number_kept : (j : ℕ) → j < at → get_or stored j 0 ≡ get_or table j 0
  number_kept j h = get_or-set_other line (at + 3) j p.column 0 (λ e. omega arith) ∙ get_or-set_other len (at + 2) j p.line 0 (λ e. omega arith) ∙ get_or-set_other start (at + 1) j p.len 0 (λ e. omega arith) ∙ get_or-set_other table at j p.start 0 (λ e. omega arith)

  module _ (room : at + place_stride ≤ length table) where
    put_start : get_or stored at 0 ≡ p.start
    put_start = get_or-set_other line (at + 3) at p.column 0 (λ e. omega arith) ∙ get_or-set_other len (at + 2) at p.line 0 (λ e. omega arith) ∙ get_or-set_other start (at + 1) at p.len 0 (λ e. omega arith) ∙ get_or-set_same table at p.start 0 (omega arith)

    put_len : get_or stored (at + 1) 0 ≡ p.len
    put_len = get_or-set_other line (at + 3) (at + 1) p.column 0 (λ e. omega arith) ∙ get_or-set_other len (at + 2) (at + 1) p.line 0 (λ e. omega arith) ∙ get_or-set_same start (at + 1) p.len 0 (simp length-set (omega arith))

    put_line : get_or stored (at + 2) 0 ≡ p.line
    put_line = get_or-set_other line (at + 3) (at + 2) p.column 0 (λ e. omega arith) ∙ get_or-set_same len (at + 2) p.line 0 (simp length-set (omega arith))

    put_column : get_or stored (at + 3) 0 ≡ p.column
    put_column = get_or-set_same line (at + 3) p.column 0 (simp length-set (omega arith))

module _ (table : List ℕ) (i : ℕ) (p : Place) (room : i * place_stride + place_stride ≤ length table) where
  -- places before it are kept
  place_kept : (j : ℕ) → j < i → place_in (with_place table i p) j ≡ place_in table j
  place_kept j h =
      let kept = number_kept table (i * place_stride) p in
      rw (kept (j * place_stride) (omega arith), kept (j * place_stride + 1) (omega arith), kept (j * place_stride + 2) (omega arith), kept (j * place_stride + 3) (omega arith))

  places_kept : (n : ℕ) → n ≤ i → places_in (with_place table i p) n ≡ places_in table n
  unfolding places_in
  places_kept zero h = refl
  places_kept (suc n) h = rw (places_kept n (omega arith), place_kept n (omega arith))

  place_put : place_in (with_place table i p) i ≡ p
  place_put = let at = i * place_stride in rw (put_start table at p room, put_len table at p room, put_line table at p room, put_column table at p room)

  -- one more place behind the others
  pub places_more : places_in (with_place table i p) (i + 1) ≡ places_in table i ++ (p ∷ [])
  unfolding places_in
  places_more = rw (add-one i, places_kept i (omega arith), place_put)

pub place_among : (table : List ℕ) (n i : ℕ) (d : Place) → i < n → get_or (places_in table n) i d ≡ place_in table i
unfolding places_in
place_among table zero i d h = absurd (let z : ⊥ = omega arith in z)
place_among table (suc n) i d h = go (λ l. place_among table n i d l) (ltb i n) refl
  where
    go : (i < n → get_or (places_in table n) i d ≡ place_in table i) → (b : Bool) → ltb i n ≡ b → get_or (places_in table n ++ (place_in table n ∷ [])) i d ≡ place_in table i
    go rec true e = get_or-append (places_in table n) (place_in table n ∷ []) d i (omega (arith, ltb-true i n e, places_length table n)) ∙ rec (ltb-true i n e)
    go rec false e =
        let k : i ≡ n = omega (arith, ltb-false i n e) in
        let l : i ≡ length (places_in table n) = omega (arith, places_length table n) in
        rw l (get_or-append_seam (places_in table n) (place_in table n) [] d) ∙ ap (place_in table) (inv k)

-- a place that fits a table can be counted on behind
pub storable_countable : (p : Place) → Storable p → Countable p (p.start + p.len)
storable_countable p s = record { further = omega arith; few_lines = omega (arith, s.line); few_columns = omega (arith, s.column); fits = omega (arith, s.start, s.len) }

-- a place of a text within its size fits a table
pub stands_storable : (text : List ℕ) (p : Place) → Stands text p → p.start + p.len ≤ length text → length text ≤ most_text → Storable p
stands_storable text p s i h = record { start = omega arith; len = omega arith; line = rw s.line (omega (arith, few_lines text p.start)); column = rw s.column (omega (arith, few_columns text p.start)) }
