-- In the order to read them in.
pub mod Class
pub mod Run
pub mod Number
pub mod Strings
pub mod Kind
pub mod Spelling
