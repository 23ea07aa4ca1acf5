pub mod GroupLemmas
pub mod LawLemmas
pub mod FoundLemmas
pub mod Theorems
