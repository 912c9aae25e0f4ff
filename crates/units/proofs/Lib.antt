pub mod SumLaws
pub mod PartLaws
pub mod ByHandLaws
pub mod ExactLaws
pub mod StepLaws
pub mod RunLaws
pub mod KeptLaws
pub mod ElsewhereLaws
