pub mod BasicLemmas
pub mod FinishLemmas
pub mod GatherLemmas
pub mod MemberLemmas
pub mod OrderingLemmas
pub mod Theorems
