pub mod Value
pub mod Assignment
pub mod Witness
pub mod Parts
pub mod Keys
