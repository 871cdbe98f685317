-- `cut` meets its contract: the slice between the two bounds is the part, in the text itself. Assumes nothing.
use Rattle.fields.proofs.Cutting.{is_cut}
use Rattle.fields.proofs.part.cut.Goals as goal

pub returns : goal.returns
returns c = is_cut _ _ _ _ c.min-start.ensures _ c.min-length.ensures
