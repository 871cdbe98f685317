-- `intern` meets its contract: an empty name, one that is there, a full table, and a new name each have their law. Assumes nothing.
use mathlib.Core.Path.{refl, sym, ◌∙◌}
use mathlib.Core.Logic.{inl}
use Rattle.meaning.proofs.Sets.{nothing_long}
use Rattle.names.specs.Numbering.{held}
use Rattle.names.proofs.Interning.{interned_full, addable, interned_new}
use Rattle.names.proofs.intern.Goals as goal

pub returns-then-name-eq0 : goal.returns-then-name-eq0
returns-then-name-eq0 c = (refl, inl (nothing_long _ c.if-name-eq0.true))

pub returns-in-Some : goal.returns-in-Some
returns-in-Some c =
    (c.requires.0, held c.in-Some.ensures, refl)

pub count-number-requires : goal.count-number-requires
count-number-requires c = c.requires.0.size

pub capacity-requires : goal.capacity-requires
capacity-requires c = c.requires.0.size

pub returns-then-number-capacity : goal.returns-then-number-capacity
returns-then-number-capacity c =
    interned_full _ _ _ c.requires.0 c.args.start _ c.requires.1 _ c.seek.ensures _ c.count-number.ensures c.in_default.is (c.if-number-capacity.true ∙ c.capacity.ensures)

pub add-requires : goal.add-requires
add-requires c =
    rw c.span_from.ensures (addable _ _ _ c.requires.0 c.args.start _ c.requires.1 _ c.seek.ensures _ c.count-number.ensures c.in_default.is _ c.slot_of-slot.ensures c.if-name-eq0.false (λ e. c.if-number-capacity.false (e ∙ sym c.capacity.ensures)))

pub returns : goal.returns
returns c =
    rw (c.add.ensures, c.span_from.ensures) (interned_new _ _ _ c.requires.0 c.args.start _ c.requires.1 _ c.seek.ensures _ c.count-number.ensures c.in_default.is _ c.slot_of-slot.ensures c.if-name-eq0.false (λ e. c.if-number-capacity.false (e ∙ sym c.capacity.ensures)))
