pub mod Outcomes
pub mod Values
pub mod Builtins
pub mod Negated
pub mod Literals
