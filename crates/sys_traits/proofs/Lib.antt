pub mod FilesLemmas
pub mod MemoryLemmas
pub mod GivenLemmas
