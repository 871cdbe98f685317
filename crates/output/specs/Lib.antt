-- In the order to read them in.
pub mod Output
pub mod Answers
pub mod Tables
