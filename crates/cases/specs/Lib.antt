pub mod Case
pub mod Claims
