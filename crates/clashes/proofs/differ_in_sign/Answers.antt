-- `differ_in_sign` meets its contract. Assumes nothing.
use Rattle.clashes.specs.Clashes.{differ_in_sign}
use borrow.Author.Tests.{eq-eqb, ne_eqb}
use Prim.Native.Nat.{◌/◌, ◌%◌}
use Rattle.clashes.proofs.differ_in_sign.Goals as goal

pub returns-then-p-q : goal.returns-then-p-q
unfolding differ_in_sign
returns-then-p-q c = let a = c.args in rw (ne_eqb (a.p / 18) (a.q / 18) c.if-p-q.true)

pub returns-then-p-q-2 : goal.returns-then-p-q-2
unfolding differ_in_sign
returns-then-p-q-2 c = let a = c.args in rw (eq-eqb (a.p / 18) (a.q / 18) c.if-p-q.false, ne_eqb (a.p % 9) (a.q % 9) c.if-p-q-2.true)

pub returns : goal.returns
unfolding differ_in_sign
returns c = let a = c.args in rw (eq-eqb (a.p / 18) (a.q / 18) c.if-p-q.false, eq-eqb (a.p % 9) (a.q % 9) c.if-p-q-2.false)
