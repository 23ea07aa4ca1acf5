pub mod PathsLemmas
pub mod Theorems
