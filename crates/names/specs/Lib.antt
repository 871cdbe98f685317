-- In the order to read them in.
pub mod Texts
pub mod Table
pub mod Numbering
