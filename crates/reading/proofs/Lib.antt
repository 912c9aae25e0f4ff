pub mod LayoutLaws
pub mod FindLaws
