-- In the order to read them in.
pub mod Heads
pub mod Bodies
pub mod Clauses
