-- `join` meets its contract: the parts are merged, and the result is copied back. Assumes nothing.
use mathlib.Core.Path.{◌∙◌, subst, sym}
use mathlib.Core.List.{List}
use Prim.Native.Nat.{ℕ}
use Rattle.names.specs.Table.{names_of}
use Rattle.ranks.specs.Sorting.{Sorts}
use Rattle.ranks.proofs.Halves.{left_sorted, right_sorted, part_lengths, joined}
use Rattle.ranks.proofs.join.Goals as goal

pub merge-requires : goal.merge-requires
merge-requires c =
    let order = c.args.order.now in
    let m = c.args.middle in
    let p = c.requires in
    (p.0, left_sorted order m _ p.3, right_sorted order m _ p.4, p.2 ∙ part_lengths order m p.1)

pub returns : goal.returns
returns c =
    let a = c.args in
    let names = names_of a.program.now a.output.now a.names.now in
    subst (λ (l : List ℕ). Sorts names a.order.now l) (sym c.copy_from_slice.ensures.after) (joined a.order.now a.middle names _ c.merge.ensures)
