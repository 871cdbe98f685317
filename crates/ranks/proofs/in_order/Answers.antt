-- `in_order` meets its contract: the bytes of the two names are compared. Assumes nothing.
use mathlib.Core.Path.{ap, ap₂, ◌∙◌}
use mathlib.Core.Bool.{not}
use Rattle.meaning.specs.Values.{bytes_before}
use Rattle.ranks.proofs.in_order.Goals as goal

pub returns : goal.returns
returns c = ap not (c.comes_before.ensures ∙ ap₂ bytes_before c.bytes_of-other.ensures c.bytes_of-one.ensures)
