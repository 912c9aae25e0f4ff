pub mod OutLaws
pub mod TookLaws
pub mod ReadLaws
pub mod PlaceLaws
pub mod WalkLaws
pub mod JoinLaws
