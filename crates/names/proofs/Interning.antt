-- What interning a name does in each case: the name is there, the table is full, or the name is put behind the others.
use mathlib.Core.Path.{◌≡◌, refl, sym, ap, subst, ◌∙◌}
use mathlib.Core.Logic.{inr}
use mathlib.Core.List.{List, [], ◌∷◌, ◌++◌}
use Prim.Native.Nat.{ℕ}
use native.Mathlib.Omega.{arith}
use lib.ListN.{length}
use Rattle.texts.specs.declared.place.Span.{Span}
use Rattle.texts.specs.Places.{span_from}
use Rattle.meaning.specs.Rules.{Bytes}
use Rattle.std.specs.Prelude.{Option, None, Some}
use Rattle.names.specs.Texts.{bytes_at}
use Rattle.names.specs.Table.{capacity, count, name_at, names_of, slot_of, with_row, Table, Addable}
use Rattle.names.specs.Numbering.{Absent, Finds, added, Interns}
use Rattle.names.proofs.Firsts.{length_first}
use Rattle.names.proofs.Slots.{slot_inside}
use Rattle.names.proofs.Standing.{starts_inside, no_longer}
use Rattle.names.proofs.Rows.{length_after}
use Rattle.names.proofs.Growth.{names_more, table_more}

not_there : (names : List Bytes) (name : Bytes) (f : Option ℕ) → f ≡ None → Finds names name f → Absent names name
not_there names name (Some i) e h = absurd (let z : ◌≡◌ {A = ℕ} 0 1 = cc in let y : ⊥ = omega arith in y)
not_there names name None e h = h

module _ (program output : Bytes) (table : List ℕ) (t : Table program output table) (start : ℕ) (name : Bytes) (b : name ≡ bytes_at program output (span_from start (length name))) (f : Option ℕ) (finds : Finds (names_of program output table) name f) where
  abbrev span : Span
  span = span_from start (length name)

  module _ (n : ℕ) (c : n ≡ count table) (none : f ≡ None) where
    pub interned_full : n ≡ capacity (length table) → Interns program output table name table None
    interned_full m = (refl, inr (not_there _ _ f none finds, length_first (name_at program output table) (count table) ∙ sym c ∙ m))

    module _ (slot : ℕ) (s : slot ≡ slot_of name) (nonempty : length name ≡ 0 → ⊥) (room : n ≡ capacity (length table) → ⊥) where
      filled : bytes_at program output span ≡ [] → ⊥
      filled e = nonempty (ap length (b ∙ e))

      pub addable : Addable table slot span
      addable =
          let below = slot_inside slot name s in
          record {
            size = t.size;
            room = let r = t.room in omega arith;
            in_slots = below;
            start_fits = let i = starts_inside program output span filled in let p = t.program_size in let o = t.output_size in omega arith;
            len_fits = let l = no_longer program output span in let p = t.program_size in let o = t.output_size in omega (arith, ap length b);
            link_fits = let w = (t.heads slot below).within in let r = t.room in omega arith;
          }

      pub interned_new : Interns program output table name (with_row table slot span) (Some n)
      interned_new = (table_more program output table slot span addable t (s ∙ ap slot_of b) (subst (Absent (names_of program output table)) b absent) filled, rw (more, number) (added absent), length_after table slot span)
        where
          absent : Absent (names_of program output table) name
          absent = not_there _ _ f none finds

          more : names_of program output (with_row table slot span) ≡ names_of program output table ++ (name ∷ [])
          more = names_more program output table slot span addable ∙ ap (λ (r : Bytes). names_of program output table ++ (r ∷ [])) (sym b)

          number : n ≡ length (names_of program output table)
          number = c ∙ sym (length_first (name_at program output table) (count table))
