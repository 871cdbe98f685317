-- In the order to read them in.
pub mod Text
pub mod Variables
pub mod Ahead
pub mod Fills
pub mod Terms
pub mod Arguments
pub mod Atoms
pub mod Builtins
pub mod Literals
pub mod Rules
pub mod Heads
pub mod Programs
