-- In the order to read them in.
pub mod Tokens
pub mod Sizes
pub mod Steps
pub mod Variables
pub mod Readings
pub mod Lists
pub mod Signs
pub mod Terms
pub mod Atoms
pub mod Builtins
pub mod Literals
pub mod Heads
pub mod Programs
