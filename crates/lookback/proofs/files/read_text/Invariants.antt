-- What `files::read_text` reads has room: it fills no more than the room has.
use Rattle.std.proofs.Common.{◌≤◌}
use Rattle.lookback.proofs.files.read_text.Given as goal

abbrev pub invariant-loop : goal.invariant-loop
invariant-loop g l = l.filled ≤ 65537
