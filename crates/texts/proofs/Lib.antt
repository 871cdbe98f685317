-- Laws that the proofs of callers cite: of bytes that pass a test, of lines and columns, of parts, of tables of places, and of refusals.
pub mod Prefix
pub mod Every
pub mod Counting
pub mod PartBytes
pub mod PlaceTables
pub mod Refusals
