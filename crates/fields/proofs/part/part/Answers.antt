-- `part` meets its contract: it is cut from the text that it names. Assumes nothing.
use Rattle.fields.proofs.Cutting.{of_program, of_output}
use Rattle.fields.proofs.part.part.Goals as goal

pub returns-in-Program : goal.returns-in-Program
returns-in-Program c = of_program _ _ _ _ _ _ _ c.in-Program.is c.cut.ensures

pub returns-in-Output : goal.returns-in-Output
returns-in-Output c = of_output _ _ _ _ _ _ _ c.in-Output.is c.cut-in-Output.ensures
