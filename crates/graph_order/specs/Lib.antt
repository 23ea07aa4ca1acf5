-- What the public contracts rest on.
pub use Rattle.graph_builder.specs.Graph
pub mod Edges
pub mod Order
-- What the crate's functions promise each other.
pub mod Names
pub mod Nodes
