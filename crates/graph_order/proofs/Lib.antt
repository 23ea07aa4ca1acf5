pub mod PlaceLemmas
pub mod ModuleLemmas
pub mod TransferLemmas
pub mod NamingLemmas
pub mod NodeLemmas
pub mod FoundLemmas
pub mod CheckLemmas
pub mod Theorems
