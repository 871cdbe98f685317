-- In the order to read them in.
pub mod Sizes
pub mod Prefix
pub mod Place
pub mod Places
pub mod Parts
pub mod Refusal
