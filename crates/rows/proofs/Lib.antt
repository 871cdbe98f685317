-- Laws that the proofs of callers cite: `Growth` of the table of names, the others of numbers for terms, atoms and literals.
pub mod Growth
pub mod Sources
pub mod Terms
pub mod Atoms
pub mod Literals
