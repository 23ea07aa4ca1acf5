-- ---- what the public contracts rest on
pub use Rattle.source_text.specs.module_text.ModuleText
pub use Rattle.media_type.specs.MediaType
pub use Rattle.parse_diagnostic.specs.Diagnosis
pub use Rattle.es_references.specs.References
pub use Rattle.es_comments.specs.Placed
pub use Rattle.es_comments.specs.Standing
pub use Rattle.es_site.specs.Sites
pub use Rattle.source_reading.specs.Tree
pub use Rattle.source_reading.specs.Read
pub use Rattle.source_reading.specs.Fault
pub use Rattle.source_reading.specs.Cuts
pub mod Parsed
pub mod Scopes
pub mod Source
pub mod Refs
pub use Rattle.es_program.specs.items.Told
pub use Rattle.es_program.specs.items.Spans
pub use Rattle.es_program.specs.items.Lent
pub mod Lexing
-- ---- what the functions inside the crate promise each other
pub mod Kept
pub mod Steps
