-- In the order in which they build on each other.
pub mod Cutting
pub mod Kept
pub mod Saying
pub mod Answering
pub mod Said
pub mod Whole
pub mod Unique
pub mod Promises
