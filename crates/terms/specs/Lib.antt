-- In the order to read them in.
pub mod Cursors
pub mod Terms
