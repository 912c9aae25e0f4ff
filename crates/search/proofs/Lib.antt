pub mod EndsLaws
pub mod ToldLaws
pub mod SearchLaws
pub mod LowestLaws
pub mod ExampleLaws
