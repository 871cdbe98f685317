-- In the order to read them in.
pub mod Standing
pub mod Facts
