-- steps one after the other
mod StepLemmas
-- what each node shows only appends
mod Nodes
-- what a module imports and exports from others
mod Staying
-- the laws
pub mod Theorems
