-- `check` meets its contract: each of the two tables has room for the names of the texts that it is taken for. Assumes nothing.
use Rattle.checker.proofs.Filling.{small_enough, large_enough}
use borrow.Author.Tests.{leb-true}
use Rattle.checker.proofs.check.Goals as goal

pub with_names-requires : goal.with_names-requires
with_names-requires c =
    small_enough c.args.program.now c.args.output.now _ c.empty_small-names.ensures c.if-program-le-SMALL_TEXT.true (leb-true _ 4_096 c.if-output-le-SMALL_TEXT.true-raw)

pub with_names-requires-2 : goal.with_names-requires-2
with_names-requires-2 c =
    large_enough c.args.program.now c.args.output.now _ c.empty-names.ensures
