-- `string::closing` meets its contract. The invariant: what is read behind the opening quote, and what ends the string from here on,
-- are together what ends it. Assumes nothing.
use Rattle.lexis.proofs.Strings.{Open}
use Rattle.lexis.proofs.string.closing.Given as goal

abbrev pub invariant-loop-end : goal.invariant-loop-end
invariant-loop-end l = Open l.text l.at l.end l.escaped
