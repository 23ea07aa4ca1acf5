pub mod ListLemmas
pub mod NodeLemmas
pub mod LeftLemmas
pub mod GoneLemmas
pub mod MergeLemmas
pub mod Theorems
