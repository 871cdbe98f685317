-- In the order to read them in.
pub mod Parts
pub mod Values
pub mod Answers
pub mod Checked
