-- `term::name_number` meets its contract: the place, counted on into the two texts, has the name's bytes. Assumes nothing.
use native.Mathlib.Omega.{arith}
use Rattle.rows.proofs.Sources.{in_source, source_fits, taken_in}
use Rattle.rows.proofs.term.name_number.Goals as goal

pub overflow_add-base : goal.overflow_add-base
overflow_add-base c =
    omega (arith, source_fits c.args.program.now c.args.output.now c.args.text.now c.args.base c.args.place c.requires.0.1 c.requires.1 _ c.requires.0.0.in_order)

pub intern-requires : goal.intern-requires
intern-requires c =
    (c.requires.0.0.in_order, in_source c.args.program.now c.args.output.now c.args.text.now c.args.base c.args.place c.requires.0.1 c.requires.1 _ c.part-name.ensures)

pub unwrap-requires : goal.unwrap-requires
unwrap-requires c =
    taken_in c.args.program.now c.args.output.now c.args.names.now _ c.requires.1 _ _ (rw c.part-name.ensures at c.intern.ensures) c.requires.0.0

pub returns : goal.returns
returns c = rw (c.part-name.ensures, c.unwrap.ensures) at c.intern.ensures
