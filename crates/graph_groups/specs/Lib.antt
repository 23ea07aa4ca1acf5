-- What the public contract rests on.
pub use Rattle.graph_order.specs.Edges
pub mod Groups
