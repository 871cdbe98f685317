-- First the tests that compute, each with what follows from it, then the examples.
pub mod Unclashing
pub mod Bound
pub mod Texts
pub mod Examples
