pub mod Sharper
pub mod Narrower
pub mod Examples
