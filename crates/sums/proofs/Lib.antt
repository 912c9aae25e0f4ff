pub mod PairLaws
pub mod AddLaws
