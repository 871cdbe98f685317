-- `put::put_bytes` meets its contract. The invariant: the bytes before this one are written. Assumes nothing.
use lib.ListN.{take}
use Rattle.plaintokens.specs.Put.{Put}
use Rattle.plaintokens.proofs.put.put_bytes.Given as goal

abbrev pub invariant-loop-byte : goal.invariant-loop-byte
invariant-loop-byte l = Put l.initial.buffer l.at (take l.byte-index l.bytes) l.next l.buffer
