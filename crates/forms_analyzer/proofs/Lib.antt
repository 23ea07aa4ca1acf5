pub mod TreeLemmas
mod FormsLemmas
pub mod Theorems
