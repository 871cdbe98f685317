-- Laws that the proofs of callers cite: first of lines and their reader, then of the report among them, then worked examples.
pub mod LineList
pub mod WholeLines
pub mod HandedOut
pub mod Located
pub mod Starting
pub mod Passing
pub mod Reporting
pub mod Unique
pub mod Inside
pub mod Answers
pub mod Examples
