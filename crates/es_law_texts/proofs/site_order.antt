mod Sites
mod Parts
mod Own
mod Trees
mod AscendLemmas
pub mod Theorems
