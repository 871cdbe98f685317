-- Room for the names of both texts, and an output cut to its size while the program is read.
use mathlib.Core.Path.{◌≡◌, ap, ◌∙◌}
use mathlib.Core.List.{List}
use Prim.Native.Nat.{ℕ, ◌≤◌}
use native.Mathlib.Omega.{arith}
use lib.ListN.{length, length-take}
use lib.Seq.{take_all}
use Rattle.texts.specs.declared.place.Span.{Span}
use Rattle.texts.specs.Parts.{bytes_in}
use Rattle.texts.specs.Sizes.{most_text}
use Rattle.texts.specs.Places.{span_from}
use Rattle.meaning.specs.Rules.{Bytes}
use Rattle.names.specs.Table.{most_names, few_names}
use Rattle.names.specs.Numbering.{Empty}
use Rattle.store.specs.Store.{store_size}
use Rattle.filling.specs.Filling.{RulesFillable}
use Rattle.checker.specs.Standing.{names_of_both}

-- ---- an output cut to its size

abbrev pub whole_size : Span
whole_size = span_from 0 most_text

cut_small : (output : Bytes) → length (bytes_in output whole_size) ≤ most_text
cut_small output = simp length-take (omega arith)

pub cut_whole : (output : Bytes) → length output ≤ most_text → bytes_in output whole_size ≡ output
cut_whole output h = take_all most_text output h

pub cut_at : (output : Bytes) {within : Bytes} {span : Span} → within ≡ bytes_in output span → span ≡ whole_size → within ≡ bytes_in output whole_size
cut_at output e q = e ∙ ap (bytes_in output) q

module _ (program output : Bytes) where
  -- ---- room for the names of both

  room_for_both : (names : List ℕ) (n : ℕ) → Empty n names → names_of_both program output ≤ n → Empty (names_of_both program output) names
  room_for_both names n e h = record { in_order = e.in_order; no_names = e.no_names; room = let r = e.room in omega arith }

  pub small_enough : (names : List ℕ) → Empty few_names names → length program ≤ 4_096 → length output ≤ 4_096 → Empty (names_of_both program output) names
  small_enough names e p o = room_for_both names few_names e (omega arith)

  pub large_enough : (names : List ℕ) → Empty most_names names → Empty (names_of_both program output) names
  large_enough names e = room_for_both names most_names e (omega arith)

  -- ---- the program's rules

  -- what is asked, of a table without names
  pub program_readable : (names store : List ℕ) → Empty (names_of_both program output) names → (within : Bytes) → within ≡ bytes_in output whole_size → length store ≡ store_size → RulesFillable program within names store
  program_readable names store empty within e long =
      record {
        room = λ size. record { in_order = empty.in_order program within size (rw e (cut_small output)); room = let r = empty.room in rw (empty.no_names program within) (omega arith) };
        long = long;
      }
