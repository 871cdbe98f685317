-- In the order to read them in.
pub mod Arguments
pub mod Atoms
