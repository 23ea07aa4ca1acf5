pub mod vendored
pub mod NameLemmas
pub mod FileLemmas
pub mod RefusedLemmas
pub mod KeptLemmas
pub mod JoinedLemmas
pub mod ApartLemmas
