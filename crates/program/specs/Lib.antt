-- In the order to read them in.
pub mod Unbound
pub mod Stage
pub mod Puts
pub mod Rules
pub mod Answer
