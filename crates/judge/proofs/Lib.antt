pub mod HeadCounts
pub mod Verdicts
