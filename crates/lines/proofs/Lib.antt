pub mod LineClaims
pub mod LineExamples
