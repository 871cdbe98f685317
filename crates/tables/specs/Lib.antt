-- In the order to read them in.
pub mod Layout
pub mod Rows
pub mod WellFormed
pub mod Stored
pub mod Coded
