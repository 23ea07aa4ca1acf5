pub mod ListLemmas
pub mod Equations
