-- `literal_stays` meets its contract, by the literal's sort and operation. Assumes nothing.
use borrow.Author.Tests.{leb-true}
use Rattle.overflow.proofs.Operations.{classical_stays, plain_stays}
use Rattle.magnitudes.proofs.Bounds.{literal_within}
use Rattle.magnitudes.proofs.literal_stays.Goals as goal

pub returns-then-literals-l-lt-BUILTIN : goal.returns-then-literals-l-lt-BUILTIN
returns-then-literals-l-lt-BUILTIN c = let a = c.args in λ z names ρ w. classical_stays names a.literals.now a.l ρ c.if-literals-l-lt-BUILTIN.true

pub returns-then-literals-l-eq-NO_OPERATION : goal.returns-then-literals-l-eq-NO_OPERATION
returns-then-literals-l-eq-NO_OPERATION c = let a = c.args in λ z names ρ w. plain_stays names a.literals.now a.l ρ c.if-literals-l-lt-BUILTIN.false c.if-literals-l-eq-NO_OPERATION.true

pub side_bound-requires : goal.side_bound-requires
side_bound-requires c =
    (c.requires.0.inside, c.requires.1, c.requires.2)

pub returns : goal.returns
returns c = let a = c.args in λ z. literal_within a.literals.now a.l a.bounds.now c.if-literals-l-lt-BUILTIN.false _ (c.side_bound.ensures (leb-true _ _ z))
