-- In the order to read them in.
pub mod Parts
pub mod Stage
