-- `clash` meets its contract: the one refusal is asked for before the other. Assumes nothing.
use Rattle.clashes.specs.Clashes.{repeats, opposes, stands}
use Rattle.clashes.proofs.clash.Goals as goal

pub returns-then-earlier : goal.returns-then-earlier
returns-then-earlier c = λ names. repeats ((c.earlier.ensures names).0 c.if-earlier.true)

pub returns-then-earlier-2 : goal.returns-then-earlier-2
returns-then-earlier-2 c = λ names. opposes ((c.earlier.ensures names).1 c.if-earlier.false) ((c.earlier-2.ensures names).0 c.if-earlier-2.true)

pub returns : goal.returns
returns c = λ names. stands ((c.earlier.ensures names).1 c.if-earlier.false) ((c.earlier-2.ensures names).1 c.if-earlier-2.false)
