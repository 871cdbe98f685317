-- `row::put_row` meets its contract. The invariant: the numbers before this one are stored. Assumes nothing.
use mathlib.Core.Path.{◌≡◌, ap, ◌∙◌}
use Prim.Native.Nat.{ℕ}
use native.Mathlib.Omega.{arith}
use native.Mathlib.Numerals.{add-one}
use lib.ListN.{length}
use lib.Seq.{paste, paste-zero, paste-suc}
use Rattle.tables.proofs.row.put_row.Goals as goal

pub loop-i-init : goal.loop-i-init
loop-i-init c = paste-zero c.args.table.now c.args.at c.args.row.now

pub loop-i-preserved : goal.loop-i-preserved
loop-i-preserved c =
    let a = c.args in
    let i = c.loop-i.i in
    rw (c.loop-i.invariant, add-one i) (paste-suc a.table.now a.at a.row.now i 0 (omega arith) (omega arith))

pub returns : goal.returns
returns c =
    let a = c.args in
    let e : c.loop-i.i ≡ length a.row.now = omega arith in
    c.loop-i.invariant ∙ ap (λ (n : ℕ). paste a.table.now a.at a.row.now n) e
