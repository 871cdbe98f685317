-- `table::add` meets its contract: five numbers are put, one after the other. Assumes nothing.
use Rattle.names.specs.Table.{with_row}
use Rattle.names.proofs.table.add.Goals as goal

pub returns : goal.returns
unfolding with_row
returns c =
    rw (c.put_number-5.ensures, c.put_number-4.ensures, c.put_number-3.ensures, c.put_number-2.ensures, c.put_number.ensures, c.count-number.ensures, c.head-link.ensures)
