pub mod ValuesLemmas
pub mod LoopLemmas
pub mod ExportLemmas
pub mod ModuleLemmas
pub mod SectionLemmas
pub mod Theorems
pub mod CutLemmas
