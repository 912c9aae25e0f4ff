pub mod Words
pub mod Search
pub mod Standard
pub mod Extends
pub mod Clear
pub mod Certificate
pub mod Diagrams
