-- `text::bytes_at` meets its contract: it goes by the text in which the span starts. Assumes nothing.
use borrow.Author.Tests.{lt-ltb, le-ltb}
use Rattle.names.specs.Texts.{bytes_at}
use Rattle.names.proofs.text.bytes_at.Goals as goal

pub returns-then-start-program : goal.returns-then-start-program
unfolding bytes_at
returns-then-start-program c = rw (c.bytes_in.ensures, lt-ltb _ _ c.if-start-program.true)

pub returns : goal.returns
unfolding bytes_at
returns c = rw (c.bytes_in-2.ensures, c.span_from.ensures, le-ltb _ _ c.if-start-program.false)
