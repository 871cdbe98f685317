-- `arguments::arguments_at` meets its contract. Assumes nothing.
use Rattle.atoms.proofs.ArgumentLists.{arguments_none}
use native.Mathlib.Omega.{arith}
use Rattle.syntax.proofs.Tokens.{past_countable}
use Rattle.atoms.proofs.arguments.arguments_at.Goals as goal

pub past-requires : goal.past-requires
past-requires c =
    past_countable c.args.cursor.ground c.args.text.now c.args.cursor.at.start _ c.token_at-token.ensures (omega arith)

pub returns-then-token-eq-CLOSE : goal.returns-then-token-eq-CLOSE
returns-then-token-eq-CLOSE c =
    rw c.past.ensures (arguments_none c.args.program.now c.args.output.now c.args.text.now c.args.names.now c.args.variables.now c.args.cursor c.requires _ c.token_at-token.ensures c.if-token-eq-CLOSE.true _)
