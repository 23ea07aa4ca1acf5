pub mod Named
pub mod Operators
