-- `put_facts` meets its contract: a fact that clashes is one of those that have their place. Assumes nothing.
use mathlib.Core.List.{[]}
use mathlib.Core.Path.{refl}
use native.Mathlib.Omega.{arith}
use Rattle.std.specs.Prelude.{Some, None}
use Rattle.candidate.proofs.put_facts.Goals as goal

pub fault_of-requires : goal.fault_of-requires
fault_of-requires c =
    let here = (c.in-Some.ensures.clash []).inside in
    (omega (arith, c.requires.1, here), omega (arith, c.requires.2, here), c.requires.3 _ here)

pub returns-in-Some : goal.returns-in-Some
returns-in-Some c = record { clash = Some c.in-Some.clash; filled = c.in-Some.ensures; is = c.fault_of.ensures }

pub returns-in-None : goal.returns-in-None
returns-in-None c = record { clash = None; filled = c.in-None.ensures; is = refl }
