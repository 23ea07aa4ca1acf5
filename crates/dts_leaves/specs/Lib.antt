-- types of literals
pub mod Leaves
