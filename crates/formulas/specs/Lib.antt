pub mod Language
pub mod Reading
pub mod Faults
pub mod Claims
pub mod Examples
