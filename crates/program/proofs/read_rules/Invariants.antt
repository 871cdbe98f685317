-- `read_rules` meets its contract. The invariant: so many rules have been read as far as here and stand in the tables, and what is
-- remembered is the first case of refusal 5 among their tokens. The measure is how many more rules there may be. Assumes nothing.
use Prim.Native.Nat.{◌-◌}
use Rattle.program.proofs.Loop.{Going}
use Rattle.program.proofs.read_rules.Given as goal

abbrev pub invariant-loop-rule : goal.invariant-loop-rule
invariant-loop-rule l = Going l.program l.output l.initial.names l.initial.rules l.initial.literals l.unbound l.at l.count l.names l.places l.rules l.literals

abbrev pub decreases-loop-rule : goal.decreases-loop-rule
decreases-loop-rule l = 257 - l.count
