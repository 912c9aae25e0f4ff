pub mod Build
pub mod Make
pub mod Ite
pub mod Any
pub mod Meaning
pub mod User
pub mod Computing
pub mod Orders
