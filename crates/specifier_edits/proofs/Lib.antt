pub mod records_lemmas
mod FaultLemmas
mod NumberLemmas
mod FirstLemmas
mod ListLemmas
pub mod ReferenceLemmas
pub mod EditLemmas
pub mod StayLemmas
pub mod Theorems
