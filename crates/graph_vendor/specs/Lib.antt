pub mod vendored
-- ---- what the public contracts rest on
pub use Rattle.graph_builder.specs.Graph
pub mod Names
pub mod Refused
pub mod Kept
pub mod Plan
-- ---- what the crate's functions promise each other
pub mod Files
