-- In the order to read them in.
pub mod Facts
pub mod Lines
