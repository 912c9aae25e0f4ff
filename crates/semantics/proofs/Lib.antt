pub mod PairLaws
pub mod ExactLaws
pub mod StepLaws
pub mod RunLaws
pub mod KeptLaws
pub mod CountLaws
pub mod KeepsLaws
pub mod RulingLaws
