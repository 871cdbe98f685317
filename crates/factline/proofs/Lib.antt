-- In the order to read them in.
pub mod FactLaws
pub mod FactRows
pub mod LineLaws
