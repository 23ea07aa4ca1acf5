pub mod AskedLemmas
pub mod DueLemmas
pub mod WordLemmas
pub mod FaultLemmas
mod DeclarationLemmas
pub mod RunLemmas
