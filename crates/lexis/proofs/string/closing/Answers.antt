-- `string::closing` meets its contract. The invariant: what is read behind the opening quote, and what ends the string from here on,
-- are together what ends it. Assumes nothing.
use Rattle.lexis.proofs.Strings.{closing_end, escaped_on, escaped_end, quote_end, newline_end, byte_on, opened, open_none, open_closed, open_on}
use Rattle.lexis.proofs.string.closing.Goals as goal
use Rattle.lexis.proofs.string.closing.Goals.{then-escaped+else-byte-ne34, else-escaped+else-byte-eq34+else-byte-eq10}

pub loop-end-init : goal.loop-end-init
loop-end-init c = opened _ _

pub returns-then-byte-ne34 : goal.returns-then-byte-ne34
returns-then-byte-ne34 c = open_none _ _ _ _ c.loop-end.invariant (rw c.if-escaped.true (escaped_end _ _ c.loop-end-test.true c.if-byte-ne34.true))

pub returns-then-byte-eq34 : goal.returns-then-byte-eq34
returns-then-byte-eq34 c = open_closed _ _ _ _ c.loop-end.invariant (rw c.if-escaped.false (quote_end _ _ c.loop-end-test.true c.if-byte-eq34.true))

pub returns-then-byte-eq10 : goal.returns-then-byte-eq10
returns-then-byte-eq10 c = open_none _ _ _ _ c.loop-end.invariant (rw c.if-escaped.false (newline_end _ _ c.loop-end-test.true c.if-byte-eq34.false c.if-byte-eq10.true))

pub loop-end-preserved : goal.loop-end-preserved
loop-end-preserved c =
    elim c.if-escaped.branch [
      | then-escaped+else-byte-ne34 w ↦
          rw w.escaped-is (open_on _ _ _ _ c.loop-end.invariant _ (rw w.if-escaped.true (escaped_on _ _ c.loop-end-test.true w.if-byte-ne34.false)))
      | else-escaped+else-byte-eq34+else-byte-eq10 w ↦
          rw w.escaped-is (open_on _ _ _ _ c.loop-end.invariant _ (rw w.if-escaped.false (byte_on _ _ c.loop-end-test.true w.if-byte-eq34.false w.if-byte-eq10.false)))
    ]

pub returns : goal.returns
returns c = open_none _ _ _ _ c.loop-end.invariant (closing_end _ _ _ c.loop-end-test.false)
