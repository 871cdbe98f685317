pub mod Signs
pub mod Rows
pub mod Search
