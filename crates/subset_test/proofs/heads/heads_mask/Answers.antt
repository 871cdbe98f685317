-- `heads::heads_mask` meets its contract. The invariant: the mask has the heads before this one. Assumes nothing.
use mathlib.Core.Path.{◌≡◌}
use Prim.Native.Nat.{◌-◌}
use native.Mathlib.Omega.{arith}
use Rattle.derived_set.proofs.Bits.{one_shifted}
use Rattle.subset_test.proofs.HeadMasks.{no_heads, head_masked, head_unmasked}
use Rattle.subset_test.proofs.heads.heads_mask.Goals as goal
use Rattle.subset_test.proofs.heads.heads_mask.Goals.{then-place-count, else-place-count}

pub loop-l-init : goal.loop-l-init
loop-l-init c = let a = c.args in no_heads a.store.now a.count a.first a.values.now _ (omega arith)

pub loop-l-preserved : goal.loop-l-preserved
loop-l-preserved c =
    let a = c.args in
    let loop = c.loop-l in
    let place = c.place-place in
    elim c.if-place-count.branch [
      | then-place-count w ↦ rw (w.mask-is, one_shifted place.result (omega (arith, c.requires.2, w.if-place-count.true))) (head_masked a.store.now a.count a.first a.values.now loop.l loop.mask loop.auto.l loop.invariant _ place.ensures c.requires.1 c.requires.2 w.if-place-count.true)
      | else-place-count w ↦ rw w.mask-is (head_unmasked a.store.now a.count a.first a.values.now loop.l loop.mask loop.auto.l loop.invariant _ place.ensures (omega (arith, w.if-place-count.false)))
    ]

pub returns : goal.returns
returns c = let e : c.loop-l.l - c.args.first ≡ c.args.heads = omega arith in rw e at c.loop-l.invariant
