pub mod AppendLaws
pub mod CallLaws
pub mod SliceLaws
