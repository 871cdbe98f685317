-- Laws of `with_row`: the numbers of a table with a row more.
use mathlib.Core.Path.{◌≡◌, ap₂, ◌∙◌}
use mathlib.Core.List.{List}
use Prim.Native.Nat.{ℕ, ◌+◌, ◌≤◌, ◌<◌}
use native.Mathlib.Omega.{arith}
use lib.ListN.{length, get_or, set, length-set}
use lib.Seq.{get_or-set_same, get_or-set_other}
use Rattle.texts.specs.declared.place.Span.{Span}
use Rattle.texts.specs.Places.{span_from}
use Rattle.names.specs.Table.{row, count, head, link, span_of, with_row, Addable}

other : (l : List ℕ) (i j a : ℕ) → (j ≡ i → ⊥) → get_or (set l i a) j 0 ≡ get_or l j 0
other l i j a h = get_or-set_other l i j a 0 h

same : (l : List ℕ) (i a : ℕ) → i < length l → get_or (set l i a) i 0 ≡ a
same l i a h = get_or-set_same l i a 0 h

module _ (table : List ℕ) (slot : ℕ) (span : Span) where
  -- the stores of a row, one after the other
  abbrev started : List ℕ
  started = set table (row (count table)) span.start

  abbrev spanned : List ℕ
  spanned = set started (row (count table) + 1) span.len

  abbrev linked : List ℕ
  linked = set spanned (row (count table) + 2) (head table slot)

  abbrev headed : List ℕ
  headed = set linked (slot + 1) (count table + 1)

  pub length_after : length (with_row table slot span) ≡ length table
  unfolding with_row
  length_after = simp length-set

  -- numbers before the new row stay, but for the count and the slot's head
  pub earlier : (j : ℕ) → 0 < j → j < row (count table) → (j ≡ slot + 1 → ⊥) → get_or (with_row table slot span) j 0 ≡ get_or table j 0
  unfolding with_row
  earlier j p h q = other headed 0 j _ (λ e. omega arith) ∙ other linked (slot + 1) j _ q ∙ other spanned (row (count table) + 2) j _ (λ e. omega arith) ∙ other started (row (count table) + 1) j _ (λ e. omega arith) ∙ other table (row (count table)) j _ (λ e. omega arith)

  module _ (a : Addable table slot span) where
    inside : (j : ℕ) → j < row (count table) + 3 → j < length table
    inside j h = let s = a.size in let r = a.room in omega arith

    -- the last two stores leave the new row alone
    new_row : (j : ℕ) → row (count table) ≤ j → get_or (with_row table slot span) j 0 ≡ get_or linked j 0
    unfolding with_row
    new_row j h = let t = a.in_slots in other headed 0 j _ (λ e. omega arith) ∙ other linked (slot + 1) j _ (λ e. omega arith)

    pub after_count : count (with_row table slot span) ≡ count table + 1
    unfolding with_row
    after_count = same headed 0 _ (simp length-set (inside 0 (omega arith)))

    pub after_head : head (with_row table slot span) slot ≡ count table + 1
    unfolding with_row
    after_head = other headed 0 (slot + 1) _ (λ e. omega arith) ∙ same linked (slot + 1) _ (simp length-set (inside (slot + 1) (let t = a.in_slots in omega arith)))

    pub after_link : link (with_row table slot span) (count table) ≡ head table slot
    after_link = new_row (row (count table) + 2) (omega arith) ∙ same spanned (row (count table) + 2) _ (simp length-set (inside (row (count table) + 2) (omega arith)))

    after_start : get_or (with_row table slot span) (row (count table)) 0 ≡ span.start
    after_start = new_row (row (count table)) (omega arith) ∙ other spanned (row (count table) + 2) (row (count table)) _ (λ e. omega arith) ∙ other started (row (count table) + 1) (row (count table)) _ (λ e. omega arith) ∙ same table (row (count table)) _ (inside (row (count table)) (omega arith))

    after_len : get_or (with_row table slot span) (row (count table) + 1) 0 ≡ span.len
    after_len = new_row (row (count table) + 1) (omega arith) ∙ other spanned (row (count table) + 2) (row (count table) + 1) _ (λ e. omega arith) ∙ same started (row (count table) + 1) _ (simp length-set (inside (row (count table) + 1) (omega arith)))

    pub after_span : span_of (with_row table slot span) (count table) ≡ span
    after_span = ap₂ span_from after_start after_len
