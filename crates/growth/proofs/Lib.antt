pub mod Growth
pub mod Besides
