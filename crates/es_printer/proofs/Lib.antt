pub mod Equations
pub mod RowLemmas
pub mod TurnLemmas
pub mod LeanLemmas
pub mod WalkLemmas
pub mod InkLemmas
pub mod LaidLemmas
pub mod LineLemmas
