pub mod ReadLaws
pub mod ZeroLaws
