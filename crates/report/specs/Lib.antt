-- In the order to read them in.
pub mod Lines
pub mod Reader
pub mod Around
pub mod Word
pub mod Report
