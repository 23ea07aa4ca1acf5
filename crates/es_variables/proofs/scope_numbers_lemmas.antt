pub mod Stacks
pub mod OpenedLemmas
pub mod NameLemmas
pub mod TopLemmas
pub mod CutLemmas
