pub mod Judged
pub mod Unique
pub mod Numbers
pub mod Claims
pub mod Rounds
pub mod Located
pub mod Demands
