-- In the order in which they build on each other.
pub mod Bounds
pub mod Clashing
pub mod Judging
pub mod Settling
pub mod Heads
pub mod WithFacts
