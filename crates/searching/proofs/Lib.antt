pub mod ChildrenLaws
pub mod SearchingLaws
