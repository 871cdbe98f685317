-- `full_words` meets its contract. The invariant: all before word w are ruled out. Assumes nothing.
use Prim.Native.Nat.{◌/◌}
use native.Mathlib.Omega.{arith}
use Rattle.std.proofs.lemmas.List.{length-take-le}
use Rattle.subsets.proofs.Left.{word_more}
use Rattle.subsets.proofs.full_words.Goals as goal

pub loop-w-preserved : goal.loop-w-preserved
loop-w-preserved c =
    let words = c.args.most / 64 in
    word_more c.args.table.now words c.loop-w.w c.loop-w.invariant (omega (arith, c.loop-w-test.true, length-take-le words c.args.table.now (omega arith))) c.if-word.false
