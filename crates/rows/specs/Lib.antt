-- In the order to read them in.
pub mod Growth
pub mod Coding
