-- `word::starts_with` meets its contract. Assumes nothing.
use mathlib.Core.Path.{◌∙◌}
use Rattle.report.proofs.Starting.{slice_starts_same}
use Rattle.report.proofs.word.starts_with.Goals as goal

pub returns : goal.returns
returns c = c.starts_with.ensures.value ∙ slice_starts_same c.args.word.now c.args.line.now
