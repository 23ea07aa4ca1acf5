pub mod MemoryLemmas
pub mod TransferLemmas
