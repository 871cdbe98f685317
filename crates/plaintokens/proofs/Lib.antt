pub mod Puts
pub mod PlainTokens
pub mod Blanks
pub mod ByTests
pub mod TokensFrom
pub mod Turns
pub mod Theorems
pub mod Examples
