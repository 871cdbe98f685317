-- In the order to read them in.
pub mod First
pub mod Tables
pub mod Leading
pub mod Turns
pub mod Going
