pub mod PairLaws
pub mod PublishedLaws
pub mod RunLaws
pub mod ListLaws
pub mod ExampleLaws
