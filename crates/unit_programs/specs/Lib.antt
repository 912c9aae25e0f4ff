pub mod Add
pub mod Units
pub mod Claims
pub mod Orders
