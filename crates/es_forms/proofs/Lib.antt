mod NumberLemmas
mod EachLemmas
pub mod Theorems
