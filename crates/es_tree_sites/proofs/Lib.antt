pub mod RowLemmas
pub mod LeanLemmas
pub mod PartLemmas
pub mod Looks
pub mod Turns
pub mod PlanLemmas
pub mod WalkLemmas
pub mod NamedLemmas
pub mod TokenLemmas
pub mod LeftLemmas
mod CutLemmas
