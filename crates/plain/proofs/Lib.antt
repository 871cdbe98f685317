pub mod Unique
pub mod Answers
pub mod Entry
pub mod TakenAgain
pub mod Located
