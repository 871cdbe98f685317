-- In the order to read them in.
pub mod Goals
pub mod Ends
