pub mod ChangesLemmas
pub mod OrderLemmas
pub mod Theorems
