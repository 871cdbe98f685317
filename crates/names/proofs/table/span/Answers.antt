-- `table::span` meets its contract. Assumes nothing.
use mathlib.Core.Path.{ap₂, ◌∙◌}
use Rattle.texts.specs.Places.{span_from}
use Rattle.names.proofs.table.span.Goals as goal

pub returns : goal.returns
returns c = c.span_from.ensures ∙ ap₂ span_from c.number_at.ensures c.number_at-2.ensures
