pub mod TreeLemmas
mod ModeLemmas
pub mod FaultLemmas
pub mod Theorems
mod ParsedLemmas
pub mod ScopeLemmas
mod LeadingLemmas
