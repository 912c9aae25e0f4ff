pub mod ShowLaws
pub mod TextClaims
pub mod ShowExamples
