pub mod Strides
pub mod Predicates
pub mod Stored
pub mod RowParts
pub mod Coded
pub mod Lengths
