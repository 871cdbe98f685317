-- `literal_leaves` meets its contract: only a built-in with an operation can leave the range. Assumes nothing.
use Rattle.matching.specs.Known.{values_in}
use Rattle.overflow.proofs.Operations.{classical_stays, plain_stays, computed_leaves}
use mathlib.Core.Path.{sym}
use Rattle.overflow.proofs.literal_leaves.Goals as goal

pub returns-then-literals-l-lt-BUILTIN : goal.returns-then-literals-l-lt-BUILTIN
returns-then-literals-l-lt-BUILTIN c =
    λ names. sym (classical_stays names c.args.literals.now c.args.l (values_in c.args.bound c.args.values.now) c.if-literals-l-lt-BUILTIN.true)

pub returns-then-literals-l-eq-NO_OPERATION : goal.returns-then-literals-l-eq-NO_OPERATION
returns-then-literals-l-eq-NO_OPERATION c =
    λ names. sym (plain_stays names c.args.literals.now c.args.l (values_in c.args.bound c.args.values.now) c.if-literals-l-lt-BUILTIN.false c.if-literals-l-eq-NO_OPERATION.true)

pub right_value-requires : goal.right_value-requires
right_value-requires c =
    (c.requires.0.inside, c.requires.0.side c.if-literals-l-lt-BUILTIN.false, c.requires.1)

pub returns : goal.returns
returns c =
    λ names. computed_leaves names c.args.literals.now c.args.l (values_in c.args.bound c.args.values.now) c.if-literals-l-lt-BUILTIN.false c.if-literals-l-eq-NO_OPERATION.false _ (c.right_value.ensures names).partial
