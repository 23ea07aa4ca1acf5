-- ---- what the public contracts rest on
pub mod Specifier
pub use Rattle.media_type.specs.MediaType
pub use Rattle.media_type.specs.Endings
pub use Rattle.media_type.specs.ContentTypes
pub use Rattle.source_text.specs.module_text.ModuleText
pub use Rattle.file_url.specs.Imports
pub use Rattle.specifier_resolver.specs.Resolver
pub mod Resolution
pub mod Headers
pub use Rattle.parse_diagnostic.specs.Diagnosis
pub mod Entry
pub mod Referrer
pub mod Json
pub mod Wasm
pub use Rattle.source_reading.specs.Read
pub use Rattle.source_reading.specs.Cuts
pub mod Reading
pub mod ReadingLaws
pub mod Ways
pub mod Analysed
-- ---- what the functions inside the crate promise each other
pub mod Steps
