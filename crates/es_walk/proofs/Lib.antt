pub mod Equations
pub mod RowLemmas
pub mod LeanLemmas
pub mod PartLemmas
pub mod LookLemmas
pub mod WalkLemmas
pub mod LeftLemmas
pub mod StepLemmas
