-- In the order to read them in.
pub mod Table
pub mod Seen
pub mod Words
