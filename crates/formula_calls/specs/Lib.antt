pub mod Call
pub mod Claims
pub mod Chain
pub mod Examples
