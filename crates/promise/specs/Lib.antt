-- In the order to read them in.
pub mod Answer
pub mod Cases
pub mod Judged
pub mod Answered
pub mod Refusals
pub mod Located
pub mod Ready
