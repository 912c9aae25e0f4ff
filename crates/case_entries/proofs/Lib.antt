pub mod CallLaws
pub mod WordLaws
pub mod StepLaws
