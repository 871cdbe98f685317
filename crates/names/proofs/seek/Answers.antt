-- `seek` meets its contract. The invariant: the link leads to a name of the slot or is 0, and the name that is looked for has no number
-- from the link on. The measure is the link. Assumes nothing.
use mathlib.Core.Path.{sym, ◌∙◌}
use native.Mathlib.Omega.{arith}
use Rattle.meaning.proofs.Facts.{same_bytes_sound}
use Prim.Native.Nat.{◌-◌}
use Rattle.names.proofs.Standing.{name_read}
use Rattle.names.proofs.Slots.{slot_inside}
use Rattle.names.proofs.Chains.{seeking_starts, seeking_on, seeking_none, seeking_found, differs}
use Rattle.names.proofs.seek.Goals as goal

pub head-link-requires : goal.head-link-requires
head-link-requires c = (c.requires.0.size, slot_inside _ _ c.requires.1)

pub loop-link-init : goal.loop-link-init
loop-link-init c =
    rw c.head-link.ensures (seeking_starts _ _ _ _ c.requires.1 _ (c.requires.0.heads c.args.slot (slot_inside _ _ c.requires.1)))

pub span-requires : goal.span-requires
span-requires c =
    let w = c.loop-link.invariant.within in let r = c.requires.0.room in omega arith

pub returns-then-same_bytes : goal.returns-then-same_bytes
returns-then-same_bytes c =
    seeking_found _ _ _ _ c.requires.1 _ c.loop-link.invariant (omega arith) (sym (name_read _ _ _ _ _ _ c.span.ensures c.bytes_at.ensures) ∙ same_bytes_sound _ _ (sym c.same_bytes.ensures ∙ c.if-same_bytes.true))

pub link-link-requires : goal.link-link-requires
link-link-requires c =
    let w = c.loop-link.invariant.within in let r = c.requires.0.room in omega arith

pub loop-link-smaller : goal.loop-link-smaller
loop-link-smaller c =
    let w = c.loop-link.invariant.within in let h = c.loop-link-test.true in let l = (c.requires.0.links (c.loop-link.link - 1) (omega arith)).within in let e = c.link-link.ensures in omega arith

pub loop-link-preserved : goal.loop-link-preserved
loop-link-preserved c =
    rw c.link-link.ensures (seeking_on _ _ _ _ c.requires.1 _ _ c.loop-link.invariant (omega arith) (λ e. differs _ _ (sym c.same_bytes.ensures ∙ c.if-same_bytes.false) (name_read _ _ _ _ _ _ c.span.ensures c.bytes_at.ensures ∙ e)) (c.requires.0.links (c.loop-link.link - 1) (let w = c.loop-link.invariant.within in let h = c.loop-link-test.true in omega arith)))

pub returns : goal.returns
returns c = seeking_none _ _ _ _ c.requires.1 _ c.loop-link.invariant c.loop-link-test.false
