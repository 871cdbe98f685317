pub mod Compared
pub mod Search
pub mod Members
