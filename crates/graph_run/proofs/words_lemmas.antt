pub mod WordLemmas
pub mod Theorems
