-- In the order to read them in.
pub mod Builtins
pub mod Literals
