-- `separator::separator_at` meets its contract. Assumes nothing.
use native.Mathlib.Omega.{arith}
use Rattle.syntax.proofs.Tokens.{past_countable}
use Rattle.syntax.proofs.separator.separator_at.Goals as goal

pub past-requires : goal.past-requires
past-requires c = past_countable c.args.ground c.args.text.now c.args.at.start _ c.token_at-token.ensures (omega arith)
