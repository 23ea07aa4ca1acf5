pub mod Sites
pub mod Said
pub mod Leading
pub mod Reached
pub mod Theorems
