pub mod ToldLaws
pub mod UnknownLaws
pub mod OneLaws
