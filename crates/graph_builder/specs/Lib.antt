-- ---- what the public contracts rest on
pub mod Rules
pub mod Reach
pub mod Final
pub mod Graph
pub mod Entries
pub mod Events
pub mod Loader
pub mod Memory
pub mod Builder
pub mod Own
pub use Rattle.graph_entry.specs.Specifier
pub use Rattle.graph_entry.specs.Analysed
pub use Rattle.graph_entry.specs.Entry
-- ---- what the crate's functions promise each other
pub mod ByText
pub mod Slots
pub mod Links
pub mod Stops
pub mod Building
pub mod Reaching
pub mod Progress
pub mod Batch
pub mod Inside
pub mod Settling
