-- In the order to read them in.
pub mod Tables
pub mod Walks
