pub mod Layout
pub mod Contract
