-- `string_at` meets its contract: what ends the string stands in the text. Assumes nothing.
use Prim.Native.Nat.{◌+◌}
use native.Mathlib.Omega.{arith}
use mathlib.Core.Bool.{false}
use lib.ListN.{drop, length-drop}
use Rattle.lexis.proofs.Strings.{closing_inside}
use Rattle.tokens.proofs.string_at.Goals as goal

pub overflow_add-end : goal.overflow_add-end
overflow_add-end c =
    let behind = drop (c.args.at.start + 1) c.args.text.now in
    omega (arith, c.in-Some.ensures, closing_inside false behind, length-drop (c.args.at.start + 1) c.args.text.now)
