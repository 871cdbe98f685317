-- Laws that the proofs of callers cite: first that a number decides its refusal and that the answer is one, then what a caller makes of it.
pub mod Unique
pub mod Stages
pub mod Uses
