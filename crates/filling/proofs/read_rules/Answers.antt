-- `read_rules` meets its contract: the part of the literals is written, and nothing else. Assumes nothing.
use native.Mathlib.Omega.{arith}
use Rattle.filling.proofs.Filled.{put_kept, put_there}
use mathlib.Core.Path.{◌≡◌}
use lib.ListN.{length}
use borrow.Author.Rules.{rules}
use Rattle.filling.proofs.read_rules.Goals as goal

pub returns : goal.returns
returns c =
    let store = c.args.store.now in
    let part = c.read_program.new.literals in
    let fits : length part ≡ 56_320 = search rules in
    record {
      reads = rw (put_there 9_216 65_536 store part (omega arith) (omega (arith, c.requires.0.long)) fits) c.read_program.ensures;
      kept = put_kept 9_216 65_536 store part (omega arith) (omega (arith, c.requires.0.long)) fits;
      rules_long = search rules;
    }
