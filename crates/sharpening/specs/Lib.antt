pub mod Replaced
pub mod Claims
pub mod Examples
