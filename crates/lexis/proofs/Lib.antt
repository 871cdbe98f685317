-- Laws that the proofs of callers cite: of a byte's class, of strings, of numbers' values, and of kinds.
pub mod Classes
pub mod Strings
pub mod Decimal
pub mod KindNumber
