pub mod Move
pub mod Leaves
pub mod Types
pub mod ModuleLeaves
pub mod Steps
pub mod Trees
