-- In the order to read them in.
pub mod Bound
pub mod Listed
pub mod Scanned
pub mod RuleRow
pub mod Unbound
