-- Laws that the proofs of callers cite: first of single definitions, then of a token, then of all the tokens of a text.
pub mod Gaps
pub mod Spelled
pub mod Between
pub mod Starts
pub mod LongestMatch
pub mod Next
pub mod OneLine
pub mod TokenList
pub mod Examples
