pub mod WhyLemmas
pub mod NodeLemmas
pub mod SearchLemmas
pub mod Theorems
