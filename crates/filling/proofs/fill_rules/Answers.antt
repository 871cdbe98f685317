-- `fill_rules` meets its contract: the literals as they are read, then the rules. Assumes nothing.
use native.Mathlib.Omega.{arith}
use Rattle.filling.proofs.Filled.{store_long, rules_filled}
use borrow.Author.Rules.{rules}
use Rattle.filling.proofs.fill_rules.Goals as goal

pub put_row-requires : goal.put_row-requires
put_row-requires c =
    omega (arith, store_long _ _ _ _ _ _ _ _ _ c.requires.long c.read_rules-read.ensures, c.read_rules-read.ensures.rules_long)

pub returns : goal.returns
returns c = rw c.put_row.ensures (rules_filled _ _ _ _ _ _ _ _ _ c.requires.long c.read_rules-read.ensures (search rules))
