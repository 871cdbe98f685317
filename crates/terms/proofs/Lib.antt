-- In the order to read them in.
pub mod Readiness
pub mod TermLaws
