pub mod scope_numbers_lemmas
pub mod scope_analysis_lemmas
pub mod declarations_lemmas
pub mod NumberLemmas
pub mod KeptLemmas
pub mod LeftLemmas
pub mod Theorems
