pub mod TreeLemmas
pub mod ReferenceLemmas
pub mod Theorems
