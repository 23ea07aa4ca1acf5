pub mod OpenLemmas
pub mod NestLemmas
pub mod Theorems
