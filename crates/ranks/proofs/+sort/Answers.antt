-- `sort` meets its contract: each half is sorted, and then the two are joined.
use Rattle.std.proofs.Common.{◌/◌, length}
use Rattle.names.specs.Table.{names_of}
use Rattle.ranks.proofs.Halves.{sorts_whole}
use Rattle.ranks.proofs.+sort.Goals as goal

pub returns : goal.returns
returns t c =
    let order = c.args.order.now in
    let names = names_of c.args.program.now c.args.output.now c.args.names.now in
    sorts_whole (length order / 2) order _ _ names c.sort.ensures c.sort-2.ensures _ c.join.ensures
