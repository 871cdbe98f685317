-- In the order to read them in.
pub mod Gap
pub mod Spells
pub mod Longest
pub mod Token
pub mod Tokens
