pub mod PatternLemmas
pub mod Theorems
