-- `put::put_bytes` meets its contract. The invariant: the bytes before this one are written. Assumes nothing.
use Rattle.plaintokens.proofs.Puts.{put_none, byte_room, byte_on, byte_end}
use Rattle.plaintokens.proofs.put.put_bytes.Goals as goal

pub loop-byte-init : goal.loop-byte-init
loop-byte-init c = put_none _ _

pub put_byte-next-requires : goal.put_byte-next-requires
put_byte-next-requires c = byte_room c.args.bytes.now c.loop-byte.invariant c.requires c.loop-byte-test.true

pub loop-byte-preserved : goal.loop-byte-preserved
loop-byte-preserved c = byte_on c.args.bytes.now c.loop-byte.invariant c.loop-byte-test.true c.put_byte-next.ensures

pub returns : goal.returns
returns c = byte_end c.args.bytes.now c.loop-byte.invariant c.loop-byte-test.false
