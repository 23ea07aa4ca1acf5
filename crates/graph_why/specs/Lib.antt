-- What the public contracts rest on.
pub use Rattle.graph_builder.specs.Graph
pub mod Why
pub mod Over
-- What the crate's functions promise each other.
pub mod Nodes
