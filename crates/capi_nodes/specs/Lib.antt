pub mod Contract
pub mod Claims
