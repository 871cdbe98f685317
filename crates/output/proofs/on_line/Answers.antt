-- `on_line` meets its contract: the line's start, counted on. Assumes nothing.
use mathlib.Core.Path.{ap, ◌∙◌}
use Rattle.texts.specs.declared.place.Place.{Place}
use Rattle.texts.specs.Place.{with_len}
use Rattle.output.proofs.on_line.Goals as goal

pub returns : goal.returns
returns c =
    c.with_len.ensures ∙ ap (λ (p : Place). with_len p c.args.place.len) c.along.ensures
