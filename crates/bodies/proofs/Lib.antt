pub mod More
pub mod Steps
pub mod Bodies
pub mod Solving
