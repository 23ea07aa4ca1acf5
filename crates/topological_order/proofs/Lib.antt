pub mod OrderLemmas
mod PlacingLemmas
mod WalkLemmas
pub mod Theorems
