mod Stands
mod Parts
mod Attributes
mod Own
mod Texts
mod Trees
pub mod Theorems
