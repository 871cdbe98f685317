-- In the order to read them in.
pub mod BuiltinLaws
pub mod LiteralLaws
