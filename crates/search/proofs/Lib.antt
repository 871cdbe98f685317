-- In the order to read them in.
pub mod Stopping
pub mod Searching
pub mod Stays
pub mod Seeking
pub mod AllTaken
