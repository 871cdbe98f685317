pub mod Ranks
pub mod Sorting
