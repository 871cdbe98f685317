pub mod Operations
pub mod Completing
pub mod Rules
