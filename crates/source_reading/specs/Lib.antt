-- ---- what the public contracts rest on
pub use Rattle.media_type.specs.MediaType
pub use Rattle.parse_diagnostic.specs.Diagnosis
pub use Rattle.es_references.specs.References
pub use Rattle.es_site.specs.Sites
-- the tree of a source, what it is read as, and what is told of its fault
pub mod Tree
pub mod Read
pub mod Fault
pub mod Cuts
