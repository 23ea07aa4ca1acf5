-- ---- what the public contracts rest on
pub use Rattle.media_type.specs.MediaType
pub use Rattle.parse_diagnostic.specs.Diagnosis
pub use Rattle.es_references.specs.References
pub use Rattle.es_site.specs.Sites
pub use Rattle.source_reading.specs.Tree
pub use Rattle.source_reading.specs.Read
pub use Rattle.source_reading.specs.Fault
pub use Rattle.source_reading.specs.Cuts
pub mod Answers
-- ---- what the functions inside the crate promise each other
pub mod Modes
