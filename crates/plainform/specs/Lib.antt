-- In the order to read them in.
pub mod PlainBytes
