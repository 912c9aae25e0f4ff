pub mod Bytes
pub mod Kinds
pub mod Fields
pub mod Accesses
pub mod Sections
