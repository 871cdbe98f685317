-- `bound::in_positives` meets its contract. The invariant: the variables of the literals before this one are added. Assumes nothing.
use native.Mathlib.Omega.{arith}
use mathlib.Core.Path.{◌≡◌, refl}
use Prim.Native.Nat.{◌-◌}
use Rattle.meaning.specs.Sets.{any}
use Rattle.tables.specs.Rows.{from}
use Rattle.rulesafety.proofs.Adding.{adds_none, body_on, body_whole}
use Rattle.rulesafety.proofs.bound.in_positives.Goals as goal

pub loop-literal-init : goal.loop-literal-init
unfolding any from
loop-literal-init c = let none : c.args.first - c.args.first ≡ 0 = omega arith in rw none (adds_none _ refl)

pub loop-literal-preserved : goal.loop-literal-preserved
loop-literal-preserved c = body_on c.args.literals.now c.args.first c.loop-literal.literal _ _ _ (omega arith) c.loop-literal.invariant c.with_literal-bound.ensures

pub returns : goal.returns
returns c = let all : c.loop-literal.literal - c.args.first ≡ c.args.count = omega arith in body_whole _ _ _ (rw all at c.loop-literal.invariant)
