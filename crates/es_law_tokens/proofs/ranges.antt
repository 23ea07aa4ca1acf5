mod Parts
pub mod Theorems
