pub mod Taking
pub mod Pushing
pub mod Stamping
pub mod Emptied
