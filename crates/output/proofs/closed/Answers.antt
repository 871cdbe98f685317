-- `closed` meets its contract: a refusal stays, and only behind what is none a line is looked for. Assumes nothing.
use mathlib.Core.Path.{refl, sym}
use Rattle.std.proofs.lemmas.Result.{err_from_is_err_and}
use Rattle.output.specs.Answers.{Closes}
use Rattle.output.proofs.closed.Goals as goal

pub returns-in_err-read : goal.returns-in_err-read
returns-in_err-read c =
    let p = err_from_is_err_and c.from_residual.result c.from_residual.ensures.1 in
    rw (p.1, p.2) (Closes.refuses _ c.in_err-read.was (sym c.in_err-read.was))

pub returns-in-End : goal.returns-in-End
returns-in-End c = Closes.closes _ c.in-End.ensures (sym c.in_ok-read.was)

pub returns-in-Line : goal.returns-in-Line
returns-in-Line c = Closes.stray _ c.in_ok-read.was _ c.in-Line.ensures refl
