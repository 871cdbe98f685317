-- `listed::positives_of` meets its contract. The invariant: the rows of the positive literals before this one are found. Assumes nothing.
use native.Mathlib.Omega.{arith}
use mathlib.Core.Path.{◌≡◌, ◌∙◌}
use Prim.Native.Nat.{◌-◌}
use Rattle.rulesafety.proofs.Listing.{found_start, found_more, found_same}
use Rattle.rulesafety.proofs.listed.positives_of.Goals as goal
use Rattle.rulesafety.proofs.listed.positives_of.Goals.{then-literals-literal-eq-POSITIVE, else-literals-literal-eq-POSITIVE}

pub loop-literal-init : goal.loop-literal-init
loop-literal-init c = let none : c.args.first - c.args.first ≡ 0 = omega arith in rw none (found_start c.args.literals.now c.args.first _ c.new-found.ensures)

pub loop-literal-preserved : goal.loop-literal-preserved
loop-literal-preserved c =
    let a = c.args in
    elim c.if-literals-literal-eq-POSITIVE.branch [
      | then-literals-literal-eq-POSITIVE w ↦ found_more a.literals.now a.first _ c.loop-literal.literal (omega arith) c.loop-literal.invariant (omega arith) w.if-literals-literal-eq-POSITIVE.true _ (w.found-is ∙ w.push.ensures)
      | else-literals-literal-eq-POSITIVE w ↦ rw w.found-is (found_same a.literals.now a.first _ c.loop-literal.literal (omega arith) c.loop-literal.invariant w.if-literals-literal-eq-POSITIVE.false)
    ]

pub returns : goal.returns
returns c =
    let all : c.loop-literal.literal - c.args.first ≡ c.args.count = omega arith in
    let few = c.loop-literal.invariant.few in
    record { are = rw all at c.loop-literal.invariant.are; few = omega (arith, c.requires.1) }
