-- In the order to read them in.
pub mod RowLaws
pub mod HeadLaws
pub mod BodyLaws
pub mod RuleLaws
