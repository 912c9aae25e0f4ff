pub mod RestLaws
pub mod FitLaws
