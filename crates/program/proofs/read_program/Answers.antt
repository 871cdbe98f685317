-- `read_program` meets its contract: a text over its size is refused, and any other one is read. Assumes nothing.
use native.Mathlib.Omega.{arith}
use Rattle.program.proofs.Loop.{over_size}
use Rattle.program.proofs.read_program.Goals as goal

pub returns-then-program-gt-MOST_TEXT : goal.returns-then-program-gt-MOST_TEXT
returns-then-program-gt-MOST_TEXT c = let long = c.if-program-gt-MOST_TEXT.true in over_size (omega arith)

pub read_rules-requires : goal.read_rules-requires
read_rules-requires c =
    (c.if-program-gt-MOST_TEXT.false, c.requires)

pub returns : goal.returns
returns c = c.read_rules.ensures
