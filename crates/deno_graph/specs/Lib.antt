-- ---- what the public contracts rest on
pub use Rattle.graph_builder.specs.Rules
pub use Rattle.graph_builder.specs.Reach
pub use Rattle.graph_builder.specs.Final
pub use Rattle.graph_builder.specs.Graph
pub use Rattle.graph_builder.specs.Entries
pub use Rattle.graph_builder.specs.Events
pub use Rattle.graph_builder.specs.Loader
pub use Rattle.graph_builder.specs.Memory
pub use Rattle.graph_builder.specs.Builder
pub use Rattle.graph_builder.specs.Own
pub use Rattle.graph_entry.specs.Specifier
pub use Rattle.graph_entry.specs.Analysed
pub use Rattle.graph_entry.specs.Entry
