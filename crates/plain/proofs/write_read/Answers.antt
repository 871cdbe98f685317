-- `write_read` meets its contract: the bytes at once; or the length first, and then, where there is room, the bytes. Assumes nothing.
use Rattle.plain.proofs.Answers.{at_once, too_short, long_enough}
use Rattle.plain.proofs.write_read.Goals as goal

pub returns-then-program-buffer : goal.returns-then-program-buffer
returns-then-program-buffer c =
    let a = c.args in
    λ p r. at_once a.program.now p r a.buffer.now c.if-program-buffer.true (c.write_tokens.ensures p r)

pub returns-then-buffer-length : goal.returns-then-buffer-length
returns-then-buffer-length c =
    let a = c.args in
    λ p r. too_short p a.buffer.now (c.write_tokens-length.ensures p r) c.if-buffer-length.true

pub returns : goal.returns
returns c =
    let a = c.args in
    λ p r. long_enough p a.buffer.now (c.write_tokens-length.ensures p r) c.if-buffer-length.false (c.write_tokens-2.ensures p r)
