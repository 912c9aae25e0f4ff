pub mod TripleLaws
pub mod StepLaws
pub mod PassLaws
pub mod PrepareLaws
