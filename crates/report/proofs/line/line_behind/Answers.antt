-- `line::line_behind` meets its contract: it counts past the line, and then past its newline, where it has one.
-- Assumes nothing.
use native.Mathlib.Omega.{arith}
use Rattle.report.proofs.Located.{end_countable, newline_countable, behind_newline, behind_last}
use Rattle.report.proofs.line.line_behind.Goals as goal

pub past-end-requires : goal.past-end-requires
past-end-requires c = end_countable _ _ c.requires (omega arith)

pub behind-requires : goal.behind-requires
behind-requires c = newline_countable _ _ c.requires _ c.past-end.ensures c.if-byte-text.true (omega arith)

pub returns-then-byte-text : goal.returns-then-byte-text
returns-then-byte-text c = behind_newline _ _ c.requires _ c.past-end.ensures c.if-byte-text.true _ c.behind.ensures

pub returns : goal.returns
returns c = behind_last _ _ c.requires _ c.past-end.ensures c.if-byte-text.false
