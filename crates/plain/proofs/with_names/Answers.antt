-- `with_names` meets its contract: what the reader of programs refuses is passed on, and what it takes is written. Assumes nothing.
use Rattle.program.proofs.Filled.{empty_fillable}
use Rattle.plain.proofs.Entry.{passes_on, readable, writes_it}
use borrow.Author.Rules.{rules}
use Rattle.plain.proofs.with_names.Goals as goal

pub read_program-requires : goal.read_program-requires
read_program-requires c = empty_fillable _ _ _ _ _ c.requires (λ small. small) (search rules) (search rules)

pub returns-in-Err : goal.returns-in-Err
returns-in-Err c = passes_on c.in-Err.ensures c.args.buffer.now

pub write_read-requires : goal.write_read-requires
write_read-requires c = readable c.in-Ok.ensures

pub returns-in-Ok : goal.returns-in-Ok
returns-in-Ok c = writes_it c.in-Ok.ensures _ _ _ c.write_read.ensures
