-- The search along a chain: it passes over no name that it looks for.
use mathlib.Core.Path.{◌≡◌, refl, sym, ap, ◌∙◌}
use mathlib.Core.Bool.{Bool, true, false, false≢true}
use mathlib.Core.Option.{some}
use Prim.Native.Nat.{ℕ, suc, ◌-◌, ◌<◌, ◌≤◌}
use native.Mathlib.Omega.{arith}
use lib.Dec.{eqb}
use lib.ListN.{get_elem?}
use borrow.Author.Tests.{eqb-true, eqb-false}
use Rattle.meaning.specs.Rules.{Bytes}
use Rattle.meaning.specs.Values.{same_bytes}
use Rattle.meaning.proofs.Facts.{same_bytes_self}
use Rattle.names.specs.Table.{first, slot_of, Latest}
use Rattle.names.specs.Numbering.{Absent}
use Rattle.names.proofs.Firsts.{first_at, first_inside}

pub record Seeking (at : ℕ → Bytes) (slot n : ℕ) (name : Bytes) (link : ℕ) : Type 0 where
  pub within : link ≤ n
  pub in_slot : (j : ℕ) → link ≡ suc j → slot_of (at j) ≡ slot
  pub left : (i : ℕ) → i < n → at i ≡ name → i < link

module _ (at : ℕ → Bytes) (slot n : ℕ) (name : Bytes) (s : slot ≡ slot_of name) (link : ℕ) where
  pub seeking_starts : Latest at slot n link → Seeking at slot n name link
  seeking_starts l = record { within = l.within; in_slot = l.in_slot; left = λ i h e. l.latest i h (ap slot_of e ∙ sym s) }

  pub seeking_on : (next : ℕ) → Seeking at slot n name link → 0 < link → (at (link - 1) ≡ name → ⊥) → Latest at (slot_of (at (link - 1))) (link - 1) next → Seeking at slot n name next
  seeking_on next k h other l = record { within = let w = k.within in let v = l.within in omega arith; in_slot = λ j e. l.in_slot j e ∙ here; left = left }
    where
      here : slot_of (at (link - 1)) ≡ slot
      here = k.in_slot (link - 1) (omega arith)

      left : (i : ℕ) → i < n → at i ≡ name → i < next
      left i b e = l.latest i (before (eqb i (link - 1)) refl) (ap slot_of e ∙ sym s ∙ sym here)
        where
          before : (t : Bool) → eqb i (link - 1) ≡ t → i < link - 1
          before true q = absurd (other (ap at (sym (eqb-true i (link - 1) q)) ∙ e))
          before false q = let d = eqb-false i (link - 1) q in let f = k.left i b e in omega arith

  pub seeking_none : Seeking at slot n name link → link ≤ 0 → Absent (first at n) name
  seeking_none k h i e =
      let p = first_inside at n i name e in
      let f = k.left i p.0 p.1 in
      omega arith

  pub seeking_found : Seeking at slot n name link → 0 < link → at (link - 1) ≡ name → get_elem? (first at n) (link - 1) ≡ some name
  seeking_found k h e = let w = k.within in first_at at n (link - 1) (omega arith) ∙ ap some e

-- bytes that are not the same differ
pub differs : (a b : Bytes) → same_bytes a b ≡ false → a ≡ b → ⊥
differs a b f e = false≢true (sym f ∙ rw e (same_bytes_self b))
