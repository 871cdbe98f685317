-- In the order in which they build on each other.
pub mod Filling
pub mod Ways
pub mod Rules
pub mod Facts
