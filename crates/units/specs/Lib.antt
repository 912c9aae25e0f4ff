pub mod Sum
pub mod Parts
pub mod Array
pub mod Held
pub mod Claims
pub mod ByHand
pub mod Elsewhere
