-- Laws that the proofs of callers cite: `Numbered` of the numbers of names, `Emptied` of a table of zeros, `Standing` of the bytes of a
-- span (`in_program`, `in_output`), `Firsts` of the list of names (`length_first`, `get_or_at`). The others serve this crate.
pub mod Ordered
pub mod Numbered
pub mod Emptied
pub mod Interning
pub mod Growth
pub mod Rows
pub mod Chains
pub mod Standing
pub mod Firsts
pub mod Slots
