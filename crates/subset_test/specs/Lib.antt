-- In the order to read them in.
pub mod Refuted
pub mod Stands
pub mod Smaller
