pub mod Sizes
pub mod Pairs
pub mod Published
pub mod Array
pub mod Held
pub mod Claims
pub mod Count
pub mod Rulings
