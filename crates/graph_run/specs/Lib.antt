pub mod words
-- What the public contracts rest on.
pub use Rattle.counted_io.specs.Transfer
pub mod Status
pub use Rattle.counted_io.specs.Memory
pub use Rattle.graph_report.specs.Report
pub use Rattle.graph_report.specs.Summary
pub use Rattle.graph_report.specs.Orders
pub mod Telling
pub mod Run
-- What the crate's functions promise each other.
pub mod Steps
