pub mod CheckLemmas
pub mod Theorems
