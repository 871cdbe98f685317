-- A place of the source, counted on into the two texts, has the same bytes.
use mathlib.Core.Path.{◌≡◌, refl, sym, ap, subst, ◌∙◌}
use mathlib.Core.Bool.{Bool, true, false}
use mathlib.Core.List.{List, [], ◌∷◌}
use Prim.Native.Nat.{ℕ, zero, suc, ◌+◌, ◌-◌, ◌≤◌, ◌<◌}
use native.Mathlib.Omega.{arith}
use lib.Dec.{ltb}
use lib.ListN.{length, take, drop, length-take, length-drop, drop_of_length-le}
use lib.Seq.{take-nil, drop-nil, drop-drop}
use borrow.Author.Tests.{ltb-true, ltb-false, lt-ltb, le-ltb}
use Rattle.texts.specs.declared.place.Place.{Place}
use Rattle.texts.specs.declared.place.Span.{Span}
use Rattle.texts.specs.Parts.{part}
use Rattle.texts.specs.Places.{span_from}
use Rattle.meaning.specs.Rules.{Bytes}
use Rattle.names.specs.Texts.{bytes_at}
use Rattle.std.specs.Prelude.{Option, IsSome}
use Rattle.names.specs.Table.{capacity, names_of, Table}
use Rattle.names.specs.Numbering.{Interns}
use Rattle.names.proofs.Standing.{starts_inside, no_longer}
use Rattle.names.proofs.Numbered.{numbered}
use Rattle.rows.specs.Growth.{Room, Source}

-- ---- a part of a part

own_start : (n l : ℕ) (ys : Bytes) → take (length (take n (take l ys))) ys ≡ take n (take l ys)
own_start zero l ys = refl
own_start (suc n) zero ys = refl
own_start (suc n) (suc l) [] = refl
own_start (suc n) (suc l) (y ∷ ys) = ap (λ (r : Bytes). y ∷ r) (own_start n l ys)

own_part : (n p l : ℕ) (ys : Bytes) → take (length (take n (drop p (take l ys)))) (drop p ys) ≡ take n (drop p (take l ys))
own_part n zero l ys = own_start n l ys
own_part n (suc p) zero ys = rw (take-nil n)
own_part n (suc p) (suc l) [] = rw (take-nil n)
own_part n (suc p) (suc l) (y ∷ ys) = own_part n p l ys

pub starts_in : (n p : ℕ) (ys : Bytes) → (take n (drop p ys) ≡ [] → ⊥) → p < length ys
starts_in n p ys h = go (ltb p (length ys)) refl
  where
    go : (t : Bool) → ltb p (length ys) ≡ t → p < length ys
    go true e = ltb-true p (length ys) e
    go false e = let k : length ys ≤ p = ltb-false p (length ys) e in absurd (h (rw (drop_of_length-le ys k, take-nil n)))

-- ---- the source

module _ (program output text : Bytes) (base : ℕ) (place : Place) (source : Source program output text base) (some : part text place ≡ [] → ⊥) where
  abbrev from : Span
  from = span_from base (length text)

  filled : part (bytes_at program output from) place ≡ [] → ⊥
  filled = subst (λ (b : Bytes). part b place ≡ [] → ⊥) source some

  there : bytes_at program output (span_from (base + place.start) (length (part (bytes_at program output from) place))) ≡ part (bytes_at program output from) place
  unfolding bytes_at
  there = go (ltb base (length program)) refl filled
    where
      shifted : (whole : Bytes) (s : ℕ) → take (length (take place.len (drop place.start (take (length text) (drop s whole))))) (drop (s + place.start) whole) ≡ take place.len (drop place.start (take (length text) (drop s whole)))
      shifted whole s = rw (← (drop-drop place.start s whole)) (own_part place.len place.start (length text) (drop s whole))

      go : (t : Bool) → ltb base (length program) ≡ t → (part (bytes_at program output (span_from base (length text))) place ≡ [] → ⊥) → bytes_at program output (span_from (base + place.start) (length (part (bytes_at program output (span_from base (length text))) place))) ≡ part (bytes_at program output (span_from base (length text))) place
      go true e f =
          let h : part (take (length text) (drop base program)) place ≡ [] → ⊥ = rw e at f in
          let k = starts_in place.len place.start _ h in
          let l : base + place.start < length program = omega (arith, simp (length-take, length-drop) at k) in
          rw (e, lt-ltb _ _ l) (shifted program base)
      go false e f =
          let k : length program ≤ base = ltb-false base (length program) e in
          let l : length program ≤ base + place.start = omega arith in
          let q : base + place.start - length program ≡ base - length program + place.start = omega arith in
          rw (e, le-ltb _ _ l, q) (shifted output (base - length program))

  -- the name stands in the two texts where its place in the text says
  pub in_source : (name : Bytes) → name ≡ part text place → name ≡ bytes_at program output (span_from (base + place.start) (length name))
  in_source name n =
      let e : name ≡ part (bytes_at program output from) place = n ∙ ap (λ (b : Bytes). part b place) source in
      e ∙ sym there ∙ ap (λ (b : Bytes). bytes_at program output (span_from (base + place.start) (length b))) (sym e)

  -- so the sum fits
  pub source_fits : (names : List ℕ) → Table program output names → base + place.start < 262_144
  source_fits names t =
      let p = t.program_size in
      let o = t.output_size in
      let nonempty : bytes_at program output from ≡ [] → ⊥ = λ e. filled (rw (e, drop-nil place.start, take-nil place.len)) in
      let s = starts_inside program output from nonempty in
      let k = starts_in place.len place.start (bytes_at program output from) filled in
      let l = no_longer program output from in
      omega arith

-- a name is not turned away where there is room
module _ (program output : Bytes) (names : List ℕ) (name : Bytes) (some : name ≡ [] → ⊥) (names' : List ℕ) (f : Option ℕ) (h : Interns program output names name names' f) where
  pub taken_in : Room program output names 1 → IsSome f
  taken_in r =
      let room : length (names_of program output names) < capacity (length names) = let k = r.room in omega arith in
      rw (numbered program output names name names' f h some room).1
