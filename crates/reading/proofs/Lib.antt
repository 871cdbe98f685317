pub mod Lists
pub mod Traces
pub mod Walks
pub mod Lawful
pub mod Theorems
