-- Laws that the proofs of callers cite.
pub mod Inside
pub mod Few
pub mod Dots
