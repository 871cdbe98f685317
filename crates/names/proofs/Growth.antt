-- A table with a row more for a new name: it is in order, and its names are those of before and the new one.
use mathlib.Core.Path.{◌≡◌, refl, sym, ap, ap₂, ◌∙◌}
use mathlib.Core.Bool.{Bool, true, false}
use mathlib.Core.List.{List, [], ◌∷◌, ◌++◌}
use Prim.Native.Nat.{ℕ, ◌+◌, ◌<◌}
use native.Mathlib.Omega.{arith}
use native.Mathlib.Numerals.{add-one}
use lib.Dec.{eqb, ltb}
use borrow.Author.Tests.{eqb-true, eqb-false, ltb-true, ltb-false}
use Rattle.texts.specs.declared.place.Span.{Span}
use Rattle.meaning.specs.Rules.{Bytes}
use Rattle.codes.proofs.Names.{distinct_more}
use Rattle.names.specs.Texts.{bytes_at}
use Rattle.names.specs.Table.{slots, row, count, head, link, name_at, first, names_of, slot_of, with_row, Latest, Table, Addable}
use Rattle.names.specs.Numbering.{Absent}
use Rattle.names.proofs.Firsts.{first_same}
use Rattle.names.proofs.Rows.{length_after, earlier, after_count, after_head, after_link, after_span}

-- ---- the last name of a slot, as names are put behind the others

module _ (at : ℕ → Bytes) (slot n : ℕ) where
  latest_same : (other : ℕ → Bytes) → ((i : ℕ) → i < n → other i ≡ at i) → (l : ℕ) → Latest at slot n l → Latest other slot n l
  latest_same other same l k =
      record {
        within = k.within;
        in_slot = λ j e. ap slot_of (same j (let w = k.within in omega arith)) ∙ k.in_slot j e;
        latest = λ i h e. k.latest i h (sym (ap slot_of (same i h)) ∙ e);
      }

  latest_passed : (l : ℕ) → Latest at slot n l → (slot_of (at n) ≡ slot → ⊥) → Latest at slot (n + 1) l
  latest_passed l k other = record { within = let w = k.within in omega arith; in_slot = k.in_slot; latest = λ i h e. k.latest i (before i h e (eqb i n) refl) e }
    where
      before : (i : ℕ) → i < n + 1 → slot_of (at i) ≡ slot → (t : Bool) → eqb i n ≡ t → i < n
      before i h e true q = absurd (other (ap (λ (j : ℕ). slot_of (at j)) (sym (eqb-true i n q)) ∙ e))
      before i h e false q = let d = eqb-false i n q in omega arith

  latest_here : slot_of (at n) ≡ slot → Latest at slot (n + 1) (n + 1)
  latest_here e = record { within = omega arith; in_slot = λ j q. let z : j ≡ n = omega arith in ap (λ (i : ℕ). slot_of (at i)) z ∙ e; latest = λ i h q. h }

-- ---- the table with a row more

module _ (program output : Bytes) (table : List ℕ) (slot : ℕ) (span : Span) (a : Addable table slot span) where
  -- the names of before stay
  pub name_stays : (i : ℕ) → i < count table → name_at program output (with_row table slot span) i ≡ name_at program output table i
  unfolding name_at
  name_stays i h = let t = a.in_slots in rw (earlier table slot span (row i) (omega arith) (omega arith) (λ e. omega arith), earlier table slot span (row i + 1) (omega arith) (omega arith) (λ e. omega arith))

  -- and the new one is that of the span
  pub name_new : name_at program output (with_row table slot span) (count table) ≡ bytes_at program output span
  unfolding name_at
  name_new = ap (bytes_at program output) (after_span table slot span a)

  pub names_more : names_of program output (with_row table slot span) ≡ names_of program output table ++ (bytes_at program output span ∷ [])
  unfolding first
  names_more = rw (after_count table slot span a, add-one (count table)) (ap₂ (λ (l : List Bytes) (b : Bytes). l ++ (b ∷ [])) (first_same _ _ (count table) name_stays) name_new)

  module _ (t : Table program output table) (s : slot ≡ slot_of (bytes_at program output span)) where
    heads : (u : ℕ) → u < slots → Latest (name_at program output (with_row table slot span)) u (count table + 1) (head (with_row table slot span) u)
    heads u h = go (eqb u slot) refl
      where
        go : (b : Bool) → eqb u slot ≡ b → Latest (name_at program output (with_row table slot span)) u (count table + 1) (head (with_row table slot span) u)
        go true e =
            let q : u ≡ slot = eqb-true u slot e in
            rw (q, after_head table slot span a) (latest_here _ slot (count table) (ap slot_of name_new ∙ sym s))
        go false e =
            let d = eqb-false u slot e in
            rw (earlier table slot span (u + 1) (omega arith) (omega arith) (λ q. omega arith))
            (latest_passed _ u (count table) _ (latest_same _ u (count table) _ name_stays _ (t.heads u h)) (λ q. d (sym q ∙ ap slot_of name_new ∙ sym s)))

    links : (i : ℕ) → i < count table + 1 → Latest (name_at program output (with_row table slot span)) (slot_of (name_at program output (with_row table slot span) i)) i (link (with_row table slot span) i)
    links i h = go (ltb i (count table)) refl
      where
        go : (b : Bool) → ltb i (count table) ≡ b → Latest (name_at program output (with_row table slot span)) (slot_of (name_at program output (with_row table slot span) i)) i (link (with_row table slot span) i)
        go true e =
            let k : i < count table = ltb-true i (count table) e in
            let u = a.in_slots in
            rw (name_stays i k, earlier table slot span (row i + 2) (omega arith) (omega arith) (λ q. omega arith))
            (latest_same _ _ i _ (λ j l. name_stays j (omega arith)) _ (t.links i k))
        go false e =
            let q : i ≡ count table = omega (arith, ltb-false i (count table) e) in
            rw (q, after_link table slot span a, name_new, ← s) (latest_same _ slot (count table) _ name_stays _ (t.heads slot a.in_slots))

    pub table_more : Absent (names_of program output table) (bytes_at program output span) → (bytes_at program output span ≡ [] → ⊥) → Table program output (with_row table slot span)
    table_more absent nonempty =
        record {
          program_size = t.program_size;
          output_size = t.output_size;
          size = rw (length_after table slot span) t.size;
          room = let e = after_count table slot span a in let r = a.room in rw (length_after table slot span) (omega arith);
          distinct = rw names_more (distinct_more _ _ t.distinct absent nonempty);
          heads = rw (after_count table slot span a) heads;
          links = rw (after_count table slot span a) links;
        }
