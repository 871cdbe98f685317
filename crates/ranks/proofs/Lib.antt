pub mod Earlier
pub mod Counts
pub mod Sortedness
pub mod Choosing
pub mod Merging
pub mod Filling
pub mod Halves
